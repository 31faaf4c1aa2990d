use Rattle.std.proofs.Common.{◌≡◌, ◌+◌, ◌*◌, length, sym, refl, ◌∙◌, true, false}
use Rattle.std.proofs.lemmas.Bool.{ltb-false, ltb-true}
use Rattle.su_node.specs.InodeChange.InodeChange.{Written}
use Rattle.su_part.proofs.Public.{knows_inode}
use Rattle.su_part.proofs.UserLemmas.{all_itself}
use Rattle.su_part.specs.Left.{HasPathsOf}
use Rattle.su_part.specs.Part.{HasAt}
use Rattle.su_part_forest.proofs.EditLifting.{of_user_part, small_inum, user_absent, user_edited, user_kept, user_known_but, user_part_stands, user_stays, with_user}
use Rattle.su_part_forest.proofs.Knowing.{known_kept}
use Rattle.su_table.specs.Query.{size_at}
use Rattle.su_part_forest.proofs.forests.PartForest.put_left.Goals as goal

pub returns-else-not-has_paths-clause-ok : goal.returns-else-not-has_paths-clause-ok
returns-else-not-has_paths-clause-ok c T xs h le is =
    let f = c.args.self.now in
    let u = c.args.place.0 in
    let n = c.args.place.1 in
    let m = c.from.result in
    let p = c.in-Some.part.now in
    let within = ltb-true _ _ (sym c.in-Some.ensures.item.0) in
    let at = c.in-Some.ensures.value in
    let same = c.from.ensures ∙ c.number.ensures.value in
    let here = user_part_stands f m u p within at same T h in
    let small = small_inum c.number-number.result n c.number-number.ensures.range.1 c.number-number.ensures.value in
    let has = c.if-not-has_paths.ensures.found refl in
    user_edited f m u p within at same c.put_left.new.self T n (Written (size_at T (u, n)) (4096 * c.args.first) xs) h (c.put_left.ensures.stands u T xs here (knows_inode u T n p small here has.inode) le is)

pub returns-else-not-has_paths-clause-known : goal.returns-else-not-has_paths-clause-known
returns-else-not-has_paths-clause-known c T xs h le =
    let f = c.args.self.now in
    let u = c.args.place.0 in
    let n = c.args.place.1 in
    let m = c.from.result in
    let p = c.in-Some.part.now in
    let within = ltb-true _ _ (sym c.in-Some.ensures.item.0) in
    let at = c.in-Some.ensures.value in
    let same = c.from.ensures ∙ c.number.ensures.value in
    let here = user_part_stands f m u p within at same T h in
    let small = small_inum c.number-number.result n c.number-number.ensures.range.1 c.number-number.ensures.value in
    let has = c.if-not-has_paths.ensures.found refl in
    user_known_but f m u p within at same c.put_left.new.self T n (Written (size_at T (u, n)) (4096 * c.args.first) xs) h c.args.first (c.args.first + length c.args.digests.now)
    (c.put_left.ensures.known u T xs here (knows_inode u T n p small here has.inode) le)

pub returns-then-not-has_paths-clause-succeeds : goal.returns-then-not-has_paths-clause-succeeds
returns-then-not-has_paths-clause-succeeds c T h loaded =
    let f = c.args.self.now in
    let u = c.args.place.0 in
    let n = c.args.place.1 in
    let m = c.from.result in
    let p = c.in-Some.part.now in
    let within = ltb-true _ _ (sym c.in-Some.ensures.item.0) in
    let at = c.in-Some.ensures.value in
    let same = c.from.ensures ∙ c.number.ensures.value in
    let here = user_part_stands f m u p within at same T h in
    absurd (let z : false ≡ true = c.if-not-has_paths.ensures.told u T here (of_user_part f m u p within at same (λ q. HasAt n (HasPathsOf c.args.first (c.args.first + length c.args.digests.now)) q) loaded) in cc)

pub returns-then-not-has_paths-clause-err : goal.returns-then-not-has_paths-clause-err
returns-then-not-has_paths-clause-err c T h =
    let f = c.args.self.now in
    let u = c.args.place.0 in
    let m = c.from.result in
    let p = c.in-Some.part.now in
    let within = ltb-true _ _ (sym c.in-Some.ensures.item.0) in
    let at = c.in-Some.ensures.value in
    let same = c.from.ensures ∙ c.number.ensures.value in
    user_stays f m u p within at same p T h (user_part_stands f m u p within at same T h)

pub returns-then-not-has_paths-clause-err_known : goal.returns-then-not-has_paths-clause-err_known
returns-then-not-has_paths-clause-err_known c T h =
    let f = c.args.self.now in
    let u = c.args.place.0 in
    let m = c.from.result in
    let p = c.in-Some.part.now in
    let within = ltb-true _ _ (sym c.in-Some.ensures.item.0) in
    let at = c.in-Some.ensures.value in
    let same = c.from.ensures ∙ c.number.ensures.value in
    let unchanged = user_stays f m u p within at same p T h (user_part_stands f m u p within at same T h) in
    known_kept f (with_user f m p) T (user_kept f m u p within at same p (all_itself p)) h unchanged

pub returns-then-not-has_paths-clause-err_keeps : goal.returns-then-not-has_paths-clause-err_keeps
returns-then-not-has_paths-clause-err_keeps c =
    let f = c.args.self.now in
    let u = c.args.place.0 in
    let m = c.from.result in
    let p = c.in-Some.part.now in
    let within = ltb-true _ _ (sym c.in-Some.ensures.item.0) in
    let at = c.in-Some.ensures.value in
    let same = c.from.ensures ∙ c.number.ensures.value in
    user_kept f m u p within at same p (all_itself p)

pub returns-in-None-clause-ok : goal.returns-in-None-clause-ok
returns-in-None-clause-ok c T xs h le is =
    user_absent c.args.self.now c.from.result c.number.result (ltb-false _ _ (sym c.in-None.ensures.item.0)) c.from.ensures c.number.ensures.range T h

pub returns-in-None-clause-known : goal.returns-in-None-clause-known
returns-in-None-clause-known c T xs h le =
    user_absent c.args.self.now c.from.result c.number.result (ltb-false _ _ (sym c.in-None.ensures.item.0)) c.from.ensures c.number.ensures.range T h
