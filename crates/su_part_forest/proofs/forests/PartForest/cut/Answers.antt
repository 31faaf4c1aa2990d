use Rattle.std.proofs.Common.{false, refl, sym, true, ◌∙◌, ◌≡◌}
use Rattle.std.proofs.lemmas.Bool.{ltb-false, ltb-true}
use Rattle.su_node.specs.InodeChange.InodeChange.{Resized}
use Rattle.su_part.proofs.Public.{knows_inode}
use Rattle.su_part.specs.Cut.{HasCutOf}
use Rattle.su_part.specs.Part.{HasAt}
use Rattle.su_part_forest.proofs.EditLifting.{of_user_part, small_inum, user_absent, user_edited, user_known, user_part_stands}
use Rattle.su_table.specs.Query.{size_at}
use Rattle.su_part_forest.proofs.forests.PartForest.cut.Goals as goal

pub returns-then-has_cut-clause-stands : goal.returns-then-has_cut-clause-stands
returns-then-has_cut-clause-stands c T h loaded below =
    let f = c.args.self.now in
    let u = c.args.place.0 in
    let n = c.args.place.1 in
    let m = c.from.result in
    let p = c.in-Some.part.now in
    let within = ltb-true _ _ (sym c.in-Some.ensures.item.0) in
    let is = c.in-Some.ensures.value in
    let same = c.from.ensures ∙ c.number.ensures.value in
    let here = user_part_stands f m u p within is same T h in
    let small = small_inum c.number-number.result n c.number-number.ensures.range.1 c.number-number.ensures.value in
    let has = c.if-has_cut.ensures.found refl in
    user_edited f m u p within is same c.cut.new.self T n (Resized (size_at T (u, n)) c.args.size) h (c.cut.ensures.stands u T here (knows_inode u T n p small here has.inode) below)

pub returns-then-has_cut-clause-known : goal.returns-then-has_cut-clause-known
returns-then-has_cut-clause-known c T h loaded below =
    let f = c.args.self.now in
    let u = c.args.place.0 in
    let n = c.args.place.1 in
    let m = c.from.result in
    let p = c.in-Some.part.now in
    let within = ltb-true _ _ (sym c.in-Some.ensures.item.0) in
    let is = c.in-Some.ensures.value in
    let same = c.from.ensures ∙ c.number.ensures.value in
    let here = user_part_stands f m u p within is same T h in
    let small = small_inum c.number-number.result n c.number-number.ensures.range.1 c.number-number.ensures.value in
    let has = c.if-has_cut.ensures.found refl in
    user_known f m u p within is same c.cut.new.self T n (Resized (size_at T (u, n)) c.args.size) h (c.cut.ensures.known u T here (knows_inode u T n p small here has.inode) below)

pub returns-else-has_cut-clause-stands : goal.returns-else-has_cut-clause-stands
returns-else-has_cut-clause-stands c T h loaded below =
    let f = c.args.self.now in
    let u = c.args.place.0 in
    let n = c.args.place.1 in
    let m = c.from.result in
    let p = c.in-Some.part.now in
    let within = ltb-true _ _ (sym c.in-Some.ensures.item.0) in
    let is = c.in-Some.ensures.value in
    let same = c.from.ensures ∙ c.number.ensures.value in
    let here = user_part_stands f m u p within is same T h in
    absurd (let z : false ≡ true = c.if-has_cut.ensures.told u T here (of_user_part f m u p within is same (λ q. HasAt n (HasCutOf c.args.size) q) loaded) in cc)

pub returns-else-has_cut-clause-known : goal.returns-else-has_cut-clause-known
returns-else-has_cut-clause-known c T h loaded below =
    let f = c.args.self.now in
    let u = c.args.place.0 in
    let n = c.args.place.1 in
    let m = c.from.result in
    let p = c.in-Some.part.now in
    let within = ltb-true _ _ (sym c.in-Some.ensures.item.0) in
    let is = c.in-Some.ensures.value in
    let same = c.from.ensures ∙ c.number.ensures.value in
    let here = user_part_stands f m u p within is same T h in
    absurd (let z : false ≡ true = c.if-has_cut.ensures.told u T here (of_user_part f m u p within is same (λ q. HasAt n (HasCutOf c.args.size) q) loaded) in cc)

pub returns-in-None-clause-stands : goal.returns-in-None-clause-stands
returns-in-None-clause-stands c T h loaded below =
    user_absent c.args.self.now c.from.result c.number.result (ltb-false _ _ (sym c.in-None.ensures.item.0)) c.from.ensures c.number.ensures.range T h

pub returns-in-None-clause-known : goal.returns-in-None-clause-known
returns-in-None-clause-known c T h loaded below =
    user_absent c.args.self.now c.from.result c.number.result (ltb-false _ _ (sym c.in-None.ensures.item.0)) c.from.ensures c.number.ensures.range T h
