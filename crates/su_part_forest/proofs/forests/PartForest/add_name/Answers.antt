use Rattle.std.proofs.Common.{Some, ap, refl, sym, ◌∙◌}
use Rattle.std.proofs.lemmas.Bool.{ltb-false, ltb-true}
use Rattle.su_node.specs.InodeChange.InodeChange.{Named}
use Rattle.su_part_forest.proofs.EditLifting.{on_err, user_absent, user_edited, user_kept, user_part_stands, user_stays}
use Rattle.su_part_forest.proofs.Lifting.{on_ok}
use Rattle.su_table.specs.Query.{is_nothing}
use Rattle.su_part_forest.proofs.Knowing.{known_kept, name_loaded, no_err}
use Rattle.su_part.specs.Known.{Knows}
use Rattle.su_part.specs.Known.Want.{AName}
use Rattle.su_table.specs.Edit.{Edit.Inodes, edit}
use Rattle.su_part.proofs.Public.{knows_name}
use Rattle.su_part_forest.proofs.EditLifting.{of_user_part, small_inum, user_has, user_known, with_user}
use Rattle.std.proofs.Common.{◌≡◌, true, false}
use Rattle.su_part.proofs.UserLemmas.{all_itself}
use Rattle.su_part_forest.proofs.forests.PartForest.add_name.Goals as goal

pub returns-else-not-has_name-clause-ok : goal.returns-else-not-has_name-clause-ok
returns-else-not-has_name-clause-ok c T h =
    let f = c.args.self.now in
    let u = c.args.place.0 in
    let n = c.args.place.1 in
    let m = c.from.result in
    let p = c.in-Some.part.now in
    let within = ltb-true _ _ (sym c.in-Some.ensures.item.0) in
    let is = c.in-Some.ensures.value in
    let same = c.from.ensures ∙ c.number.ensures.value in
    let here = user_part_stands f m u p within is same T h in
    let has = c.if-not-has_name.ensures.found refl in
    on_ok c.add_name.result (λ s. user_edited f m u p within is same c.add_name.new.self T n (Named c.args.name (Some c.args.file)) h s) (c.add_name.ensures.ok u T here (has.inode.there u T here))

pub returns-else-not-has_name-clause-absent : goal.returns-else-not-has_name-clause-absent
returns-else-not-has_name-clause-absent c T h has =
    let f = c.args.self.now in
    let u = c.args.place.0 in
    let m = c.from.result in
    let p = c.in-Some.part.now in
    let within = ltb-true _ _ (sym c.in-Some.ensures.item.0) in
    let is = c.in-Some.ensures.value in
    let same = c.from.ensures ∙ c.number.ensures.value in
    let here = user_part_stands f m u p within is same T h in
    on_err c.add_name.result (λ e. ap is_nothing e) (c.add_name.ensures.absent u T here)

pub returns-else-not-has_name-clause-err : goal.returns-else-not-has_name-clause-err
returns-else-not-has_name-clause-err c T h =
    let f = c.args.self.now in
    let u = c.args.place.0 in
    let m = c.from.result in
    let p = c.in-Some.part.now in
    let within = ltb-true _ _ (sym c.in-Some.ensures.item.0) in
    let is = c.in-Some.ensures.value in
    let same = c.from.ensures ∙ c.number.ensures.value in
    let here = user_part_stands f m u p within is same T h in
    on_err c.add_name.result (λ s. user_stays f m u p within is same c.add_name.new.self T h s) (c.add_name.ensures.err u T here)

pub returns-else-not-has_name-clause-keeps : goal.returns-else-not-has_name-clause-keeps
returns-else-not-has_name-clause-keeps c =
    let f = c.args.self.now in
    let u = c.args.place.0 in
    let m = c.from.result in
    let p = c.in-Some.part.now in
    let within = ltb-true _ _ (sym c.in-Some.ensures.item.0) in
    let is = c.in-Some.ensures.value in
    let same = c.from.ensures ∙ c.number.ensures.value in
    user_kept f m u p within is same c.add_name.new.self c.add_name.ensures.keeps

pub returns-in-None-clause-ok : goal.returns-in-None-clause-ok
returns-in-None-clause-ok c T h =
    user_absent c.args.self.now c.from.result c.number.result (ltb-false _ _ (sym c.in-None.ensures.item.0)) c.from.ensures c.number.ensures.range T h

pub returns-else-not-has_name-clause-known : goal.returns-else-not-has_name-clause-known
returns-else-not-has_name-clause-known c T h =
    let f = c.args.self.now in
    let u = c.args.place.0 in
    let n = c.args.place.1 in
    let m = c.from.result in
    let p = c.in-Some.part.now in
    let within = ltb-true _ _ (sym c.in-Some.ensures.item.0) in
    let is = c.in-Some.ensures.value in
    let same = c.from.ensures ∙ c.number.ensures.value in
    let here = user_part_stands f m u p within is same T h in
    let has = c.if-not-has_name.ensures.found refl in
    let q = c.add_name.new.self in
    let r = c.add_name.result in
    on_ok r (user_known f m u p within is same q T n (Named c.args.name (Some c.args.file)) h) (c.add_name.ensures.known u T here (has.inode.there u T here))

pub returns-else-not-has_name-clause-added : goal.returns-else-not-has_name-clause-added
returns-else-not-has_name-clause-added c T h =
    let f = c.args.self.now in
    let u = c.args.place.0 in
    let n = c.args.place.1 in
    let m = c.from.result in
    let p = c.in-Some.part.now in
    let within = ltb-true _ _ (sym c.in-Some.ensures.item.0) in
    let is = c.in-Some.ensures.value in
    let same = c.from.ensures ∙ c.number.ensures.value in
    let here = user_part_stands f m u p within is same T h in
    let small = small_inum c.number-number.result n c.number-number.ensures.range.1 c.number-number.ensures.value in
    let has = c.if-not-has_name.ensures.found refl in
    let q = c.add_name.new.self in
    let r = c.add_name.result in
    on_ok r (λ stays. user_has f m u p within is same q (Knows u (edit T (Inodes (u, n) (Named c.args.name (Some c.args.file)))) (AName n c.args.name)) (stays (AName n c.args.name) (knows_name u T n p small here c.args.name c.byte_count-bytes.ensures.key has)))
    (c.add_name.ensures.known u T here (has.inode.there u T here))

pub returns-else-not-has_name-clause-succeeds : goal.returns-else-not-has_name-clause-succeeds
returns-else-not-has_name-clause-succeeds c T h known there =
    let f = c.args.self.now in
    let u = c.args.place.0 in
    let n = c.args.place.1 in
    let m = c.from.result in
    let p = c.in-Some.part.now in
    let within = ltb-true _ _ (sym c.in-Some.ensures.item.0) in
    let is = c.in-Some.ensures.value in
    let same = c.from.ensures ∙ c.number.ensures.value in
    let here = user_part_stands f m u p within is same T h in
    let r = c.add_name.result in
    no_err r (c.add_name.ensures.absent u T here) (λ none. let z : true ≡ false = ap is_nothing (sym none) ∙ there in cc)

pub returns-then-not-has_name-clause-succeeds : goal.returns-then-not-has_name-clause-succeeds
returns-then-not-has_name-clause-succeeds c T h known there =
    let f = c.args.self.now in
    let u = c.args.place.0 in
    let n = c.args.place.1 in
    let m = c.from.result in
    let p = c.in-Some.part.now in
    let within = ltb-true _ _ (sym c.in-Some.ensures.item.0) in
    let is = c.in-Some.ensures.value in
    let same = c.from.ensures ∙ c.number.ensures.value in
    let here = user_part_stands f m u p within is same T h in
    let has = name_loaded u n T c.args.name p here (of_user_part f m u p within is same (Knows u T (AName n c.args.name)) known) there in
    absurd (let z : false ≡ true = c.if-not-has_name.ensures.told u T here has in cc)

pub returns-else-not-has_name-clause-err_known : goal.returns-else-not-has_name-clause-err_known
returns-else-not-has_name-clause-err_known c T h =
    let f = c.args.self.now in
    let u = c.args.place.0 in
    let m = c.from.result in
    let p = c.in-Some.part.now in
    let within = ltb-true _ _ (sym c.in-Some.ensures.item.0) in
    let is = c.in-Some.ensures.value in
    let same = c.from.ensures ∙ c.number.ensures.value in
    let here = user_part_stands f m u p within is same T h in
    let q = c.add_name.new.self in
    let r = c.add_name.result in
    on_err r (λ s. known_kept f (with_user f m q) T (user_kept f m u p within is same q c.add_name.ensures.keeps) h (user_stays f m u p within is same q T h s)) (c.add_name.ensures.err u T here)

pub returns-then-not-has_name-clause-err_known : goal.returns-then-not-has_name-clause-err_known
returns-then-not-has_name-clause-err_known c T h =
    let f = c.args.self.now in
    let u = c.args.place.0 in
    let m = c.from.result in
    let p = c.in-Some.part.now in
    let within = ltb-true _ _ (sym c.in-Some.ensures.item.0) in
    let is = c.in-Some.ensures.value in
    let same = c.from.ensures ∙ c.number.ensures.value in
    let unchanged = user_stays f m u p within is same p T h (user_part_stands f m u p within is same T h) in
    known_kept f (with_user f m p) T (user_kept f m u p within is same p (all_itself p)) h unchanged

pub returns-in-None-clause-known : goal.returns-in-None-clause-known
returns-in-None-clause-known c T h =
    user_absent c.args.self.now c.from.result c.number.result (ltb-false _ _ (sym c.in-None.ensures.item.0)) c.from.ensures c.number.ensures.range T h

pub returns-in-None-clause-added : goal.returns-in-None-clause-added
returns-in-None-clause-added c T h =
    user_absent c.args.self.now c.from.result c.number.result (ltb-false _ _ (sym c.in-None.ensures.item.0)) c.from.ensures c.number.ensures.range T h

pub returns-in-None-clause-succeeds : goal.returns-in-None-clause-succeeds
returns-in-None-clause-succeeds c T h known there =
    user_absent c.args.self.now c.from.result c.number.result (ltb-false _ _ (sym c.in-None.ensures.item.0)) c.from.ensures c.number.ensures.range T h
