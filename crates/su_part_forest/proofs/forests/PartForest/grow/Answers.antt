use Rattle.std.proofs.Common.{refl, sym, ◌∙◌}
use Rattle.std.proofs.lemmas.Bool.{ltb-false, ltb-true}
use Rattle.su_node.specs.InodeChange.InodeChange.{Resized}
use Rattle.su_part.proofs.Public.{knows_inode}
use Rattle.su_part_forest.proofs.EditLifting.{on_err, small_inum, user_absent, user_edited, user_part_stands, user_stays}
use Rattle.su_part_forest.proofs.Lifting.{on_ok}
use Rattle.su_table.specs.Query.{size_at}
use Rattle.su_part_forest.proofs.Knowing.{on_errs, on_three, grown_cut, known_kept}
use Rattle.su_part_forest.proofs.EditLifting.{kept_beside_itself, user_has, user_kept, user_kept_beside, user_known, with_user}
use Rattle.su_part.specs.Cut.{HasCutOf}
use Rattle.su_part.specs.Part.{HasAt}
use Rattle.su_part.proofs.UserLemmas.{all_itself}
use Rattle.su_part_forest.proofs.forests.PartForest.grow.Goals as goal

pub returns-else-not-has_write-clause-ok : goal.returns-else-not-has_write-clause-ok
returns-else-not-has_write-clause-ok c T h above =
    let f = c.args.self.now in
    let u = c.args.place.0 in
    let n = c.args.place.1 in
    let m = c.from.result in
    let p = c.in-Some.part.now in
    let within = ltb-true _ _ (sym c.in-Some.ensures.item.0) in
    let is = c.in-Some.ensures.value in
    let same = c.from.ensures ∙ c.number.ensures.value in
    let here = user_part_stands f m u p within is same T h in
    let small = small_inum c.number-number.result n c.number-number.ensures.range.1 c.number-number.ensures.value in
    let has = c.if-not-has_write.ensures.found refl in
    on_ok c.grow.result (λ s. user_edited f m u p within is same c.grow.new.self T n (Resized (size_at T (u, n)) c.args.size) h s) (c.grow.ensures.ok u T here (knows_inode u T n p small here has.inode) above)

pub returns-else-not-has_write-clause-err : goal.returns-else-not-has_write-clause-err
returns-else-not-has_write-clause-err c T h =
    let f = c.args.self.now in
    let u = c.args.place.0 in
    let m = c.from.result in
    let p = c.in-Some.part.now in
    let within = ltb-true _ _ (sym c.in-Some.ensures.item.0) in
    let is = c.in-Some.ensures.value in
    let same = c.from.ensures ∙ c.number.ensures.value in
    let here = user_part_stands f m u p within is same T h in
    on_err c.grow.result (λ s. user_stays f m u p within is same c.grow.new.self T h s) (c.grow.ensures.err u T here)

pub returns-in-None-clause-ok : goal.returns-in-None-clause-ok
returns-in-None-clause-ok c T h above =
    user_absent c.args.self.now c.from.result c.number.result (ltb-false _ _ (sym c.in-None.ensures.item.0)) c.from.ensures c.number.ensures.range T h

pub returns-else-not-has_write-clause-known : goal.returns-else-not-has_write-clause-known
returns-else-not-has_write-clause-known c T h above =
    let f = c.args.self.now in
    let u = c.args.place.0 in
    let n = c.args.place.1 in
    let m = c.from.result in
    let p = c.in-Some.part.now in
    let within = ltb-true _ _ (sym c.in-Some.ensures.item.0) in
    let is = c.in-Some.ensures.value in
    let same = c.from.ensures ∙ c.number.ensures.value in
    let here = user_part_stands f m u p within is same T h in
    let small = small_inum c.number-number.result n c.number-number.ensures.range.1 c.number-number.ensures.value in
    let has = c.if-not-has_write.ensures.found refl in
    let q = c.grow.new.self in
    let r = c.grow.result in
    on_ok r (user_known f m u p within is same q T n (Resized (size_at T (u, n)) c.args.size) h) (c.grow.ensures.known u T here (knows_inode u T n p small here has.inode) above)

pub returns-else-not-has_write-clause-cuts : goal.returns-else-not-has_write-clause-cuts
returns-else-not-has_write-clause-cuts c T h above =
    let f = c.args.self.now in
    let u = c.args.place.0 in
    let n = c.args.place.1 in
    let m = c.from.result in
    let p = c.in-Some.part.now in
    let within = ltb-true _ _ (sym c.in-Some.ensures.item.0) in
    let is = c.in-Some.ensures.value in
    let same = c.from.ensures ∙ c.number.ensures.value in
    let here = user_part_stands f m u p within is same T h in
    let small = small_inum c.number-number.result n c.number-number.ensures.range.1 c.number-number.ensures.value in
    let has = c.if-not-has_write.ensures.found refl in
    let q = c.grow.new.self in
    let r = c.grow.result in
    let known = knows_inode u T n p small here has.inode in
    on_three r (λ stays s knows. user_has f m u p within is same q (HasAt n (HasCutOf (size_at T (u, n)))) (grown_cut u n c.args.size T p q small here has above stays s knows))
    c.grow.ensures.stays (c.grow.ensures.ok u T here known above) (c.grow.ensures.known u T here known above)

pub returns-else-not-has_write-clause-err_known : goal.returns-else-not-has_write-clause-err_known
returns-else-not-has_write-clause-err_known c T h =
    let f = c.args.self.now in
    let u = c.args.place.0 in
    let m = c.from.result in
    let p = c.in-Some.part.now in
    let within = ltb-true _ _ (sym c.in-Some.ensures.item.0) in
    let is = c.in-Some.ensures.value in
    let same = c.from.ensures ∙ c.number.ensures.value in
    let here = user_part_stands f m u p within is same T h in
    let q = c.grow.new.self in
    let r = c.grow.result in
    on_errs r (λ keeps s. known_kept f (with_user f m q) T (user_kept f m u p within is same q keeps) h (user_stays f m u p within is same q T h s)) c.grow.ensures.keeps (c.grow.ensures.err u T here)

pub returns-else-not-has_write-clause-err_keeps : goal.returns-else-not-has_write-clause-err_keeps
returns-else-not-has_write-clause-err_keeps c =
    let f = c.args.self.now in
    let u = c.args.place.0 in
    let m = c.from.result in
    let p = c.in-Some.part.now in
    let within = ltb-true _ _ (sym c.in-Some.ensures.item.0) in
    let is = c.in-Some.ensures.value in
    let same = c.from.ensures ∙ c.number.ensures.value in
    let q = c.grow.new.self in
    let r = c.grow.result in
    on_err r (user_kept f m u p within is same q) c.grow.ensures.keeps

pub returns-then-not-has_write-clause-err_known : goal.returns-then-not-has_write-clause-err_known
returns-then-not-has_write-clause-err_known c T h =
    let f = c.args.self.now in
    let u = c.args.place.0 in
    let m = c.from.result in
    let p = c.in-Some.part.now in
    let within = ltb-true _ _ (sym c.in-Some.ensures.item.0) in
    let is = c.in-Some.ensures.value in
    let same = c.from.ensures ∙ c.number.ensures.value in
    let unchanged = user_stays f m u p within is same p T h (user_part_stands f m u p within is same T h) in
    known_kept f (with_user f m p) T (user_kept f m u p within is same p (all_itself p)) h unchanged

pub returns-then-not-has_write-clause-err_keeps : goal.returns-then-not-has_write-clause-err_keeps
returns-then-not-has_write-clause-err_keeps c =
    let f = c.args.self.now in
    let u = c.args.place.0 in
    let m = c.from.result in
    let p = c.in-Some.part.now in
    let within = ltb-true _ _ (sym c.in-Some.ensures.item.0) in
    let is = c.in-Some.ensures.value in
    let same = c.from.ensures ∙ c.number.ensures.value in
    user_kept f m u p within is same p (all_itself p)

pub returns-in-None-clause-known : goal.returns-in-None-clause-known
returns-in-None-clause-known c T h above =
    user_absent c.args.self.now c.from.result c.number.result (ltb-false _ _ (sym c.in-None.ensures.item.0)) c.from.ensures c.number.ensures.range T h

pub returns-in-None-clause-cuts : goal.returns-in-None-clause-cuts
returns-in-None-clause-cuts c T h above =
    user_absent c.args.self.now c.from.result c.number.result (ltb-false _ _ (sym c.in-None.ensures.item.0)) c.from.ensures c.number.ensures.range T h

pub returns-else-not-has_write-clause-beside : goal.returns-else-not-has_write-clause-beside
returns-else-not-has_write-clause-beside c =
    let f = c.args.self.now in
    let u = c.args.place.0 in
    let n = c.args.place.1 in
    let m = c.from.result in
    let p = c.in-Some.part.now in
    let within = ltb-true _ _ (sym c.in-Some.ensures.item.0) in
    let is = c.in-Some.ensures.value in
    let same = c.from.ensures ∙ c.number.ensures.value in
    on_ok c.grow.result (user_kept_beside f m u p within is same c.grow.new.self n) c.grow.ensures.stays

pub returns-in-None-clause-beside : goal.returns-in-None-clause-beside
returns-in-None-clause-beside c = kept_beside_itself c.args.self.now c.args.place
