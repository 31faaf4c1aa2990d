use Rattle.std.proofs.Common.{refl, sym, ◌∙◌}
use Rattle.std.proofs.lemmas.Bool.{ltb-false, ltb-true}
use Rattle.su_node.specs.InodeChange.InodeChange.{Copied}
use Rattle.su_part.proofs.Public.{knows_inode}
use Rattle.su_part_forest.proofs.EditLifting.{free_at, on_err, small_inum, user_absent, user_edited, user_part_stands, user_stays}
use Rattle.su_part_forest.proofs.Lifting.{on_ok}
use Rattle.su_part_forest.proofs.Knowing.{on_errs, on_two, free_none, inode_loaded, kept_beside, known_besides, known_kept, known_put, no_err, ok_or_err, taken}
use Rattle.su_part.specs.Known.{Knows}
use Rattle.su_part.specs.Known.Want.{AnInode}
use Rattle.su_table.specs.Edit.{Edit.Inodes, edit}
use Rattle.su_part_forest.proofs.EditLifting.{kept_beside_itself, user_has, user_kept, user_kept_beside, with_user}
use Rattle.su_part_forest.proofs.Lifting.{all_kept}
use Rattle.std.proofs.Common.{◌≡◌, true, false, subst}
use Rattle.std.specs.Prelude.{IsSome}
use Rattle.su_part_forest.proofs.EditLifting.{of_user_part, user_known_beside}
use Rattle.su_part.proofs.UserLemmas.{all_itself}
use Rattle.su_part_forest.proofs.forests.PartForest.exchange_inode.Goals as goal

pub returns-else-not-has_inode-clause-ok : goal.returns-else-not-has_inode-clause-ok
returns-else-not-has_inode-clause-ok c T i h stands meant =
    let f = c.args.self.now in
    let u = c.args.place.0 in
    let n = c.args.place.1 in
    let m = c.from.result in
    let p = c.in-Some.part.now in
    let within = ltb-true _ _ (sym c.in-Some.ensures.item.0) in
    let is = c.in-Some.ensures.value in
    let same = c.from.ensures ∙ c.number.ensures.value in
    let here = user_part_stands f m u p within is same T h in
    let small = small_inum c.number-number.result n c.number-number.ensures.range.1 c.number-number.ensures.value in
    let has = c.if-not-has_inode.ensures.found refl in
    on_ok c.exchange_inode.result (λ s. user_edited f m u p within is same c.exchange_inode.new.self T n (Copied i) h s) (c.exchange_inode.ensures.ok u T i here (knows_inode u T n p small here has) stands meant)

pub returns-else-not-has_inode-clause-was : goal.returns-else-not-has_inode-clause-was
returns-else-not-has_inode-clause-was c T h =
    let f = c.args.self.now in
    let u = c.args.place.0 in
    let m = c.from.result in
    let p = c.in-Some.part.now in
    let within = ltb-true _ _ (sym c.in-Some.ensures.item.0) in
    let is = c.in-Some.ensures.value in
    let same = c.from.ensures ∙ c.number.ensures.value in
    let here = user_part_stands f m u p within is same T h in
    let has = c.if-not-has_inode.ensures.found refl in
    c.exchange_inode.ensures.value u T here (has.there u T here)

pub returns-else-not-has_inode-clause-absent : goal.returns-else-not-has_inode-clause-absent
returns-else-not-has_inode-clause-absent c T h loaded =
    let f = c.args.self.now in
    let u = c.args.place.0 in
    let m = c.from.result in
    let p = c.in-Some.part.now in
    let within = ltb-true _ _ (sym c.in-Some.ensures.item.0) in
    let is = c.in-Some.ensures.value in
    let same = c.from.ensures ∙ c.number.ensures.value in
    let here = user_part_stands f m u p within is same T h in
    let has = c.if-not-has_inode.ensures.found refl in
    on_err c.exchange_inode.result (λ e. free_at T c.args.place e) (c.exchange_inode.ensures.absent u T here (has.there u T here))

pub returns-else-not-has_inode-clause-err : goal.returns-else-not-has_inode-clause-err
returns-else-not-has_inode-clause-err c T h =
    let f = c.args.self.now in
    let u = c.args.place.0 in
    let m = c.from.result in
    let p = c.in-Some.part.now in
    let within = ltb-true _ _ (sym c.in-Some.ensures.item.0) in
    let is = c.in-Some.ensures.value in
    let same = c.from.ensures ∙ c.number.ensures.value in
    let here = user_part_stands f m u p within is same T h in
    on_err c.exchange_inode.result (λ s. user_stays f m u p within is same c.exchange_inode.new.self T h s) (c.exchange_inode.ensures.err u T here)

pub returns-in-None-clause-ok : goal.returns-in-None-clause-ok
returns-in-None-clause-ok c T i h stands meant =
    user_absent c.args.self.now c.from.result c.number.result (ltb-false _ _ (sym c.in-None.ensures.item.0)) c.from.ensures c.number.ensures.range T h

pub returns-in-None-clause-was : goal.returns-in-None-clause-was
returns-in-None-clause-was c T h =
    user_absent c.args.self.now c.from.result c.number.result (ltb-false _ _ (sym c.in-None.ensures.item.0)) c.from.ensures c.number.ensures.range T h

pub returns-else-not-has_inode-clause-known : goal.returns-else-not-has_inode-clause-known
returns-else-not-has_inode-clause-known c T i h stands meant =
    let f = c.args.self.now in
    let u = c.args.place.0 in
    let n = c.args.place.1 in
    let m = c.from.result in
    let p = c.in-Some.part.now in
    let within = ltb-true _ _ (sym c.in-Some.ensures.item.0) in
    let is = c.in-Some.ensures.value in
    let same = c.from.ensures ∙ c.number.ensures.value in
    let here = user_part_stands f m u p within is same T h in
    let small = small_inum c.number-number.result n c.number-number.ensures.range.1 c.number-number.ensures.value in
    let has = c.if-not-has_inode.ensures.found refl in
    let q = c.exchange_inode.new.self in
    let r = c.exchange_inode.result in
    on_two r (λ stays there. user_known_beside f m u p within is same q T n (Copied i) h (known_besides u n T (Copied i) p q stays has small (subst IsSome (sym there) refl)))
    c.exchange_inode.ensures.stays c.exchange_inode.ensures.there

pub returns-else-not-has_inode-clause-added : goal.returns-else-not-has_inode-clause-added
returns-else-not-has_inode-clause-added c T i h stands meant =
    let f = c.args.self.now in
    let u = c.args.place.0 in
    let n = c.args.place.1 in
    let m = c.from.result in
    let p = c.in-Some.part.now in
    let within = ltb-true _ _ (sym c.in-Some.ensures.item.0) in
    let is = c.in-Some.ensures.value in
    let same = c.from.ensures ∙ c.number.ensures.value in
    let here = user_part_stands f m u p within is same T h in
    let small = small_inum c.number-number.result n c.number-number.ensures.range.1 c.number-number.ensures.value in
    let has = c.if-not-has_inode.ensures.found refl in
    let q = c.exchange_inode.new.self in
    let r = c.exchange_inode.result in
    on_two r (λ stays there. user_has f m u p within is same q (Knows u (edit T (Inodes (u, n) (Copied i))) (AnInode n)) (known_put u n T (Copied i) p q stays has small (subst IsSome (sym there) refl)))
    c.exchange_inode.ensures.stays c.exchange_inode.ensures.there

pub returns-else-not-has_inode-clause-succeeds : goal.returns-else-not-has_inode-clause-succeeds
returns-else-not-has_inode-clause-succeeds c T h known there =
    let f = c.args.self.now in
    let u = c.args.place.0 in
    let m = c.from.result in
    let p = c.in-Some.part.now in
    let within = ltb-true _ _ (sym c.in-Some.ensures.item.0) in
    let is = c.in-Some.ensures.value in
    let same = c.from.ensures ∙ c.number.ensures.value in
    let here = user_part_stands f m u p within is same T h in
    let has = c.if-not-has_inode.ensures.found refl in
    let r = c.exchange_inode.result in
    no_err r (c.exchange_inode.ensures.absent u T here (has.there u T here)) (taken T c.args.place there)

pub returns-then-not-has_inode-clause-succeeds : goal.returns-then-not-has_inode-clause-succeeds
returns-then-not-has_inode-clause-succeeds c T h known there =
    let f = c.args.self.now in
    let u = c.args.place.0 in
    let n = c.args.place.1 in
    let m = c.from.result in
    let p = c.in-Some.part.now in
    let within = ltb-true _ _ (sym c.in-Some.ensures.item.0) in
    let is = c.in-Some.ensures.value in
    let same = c.from.ensures ∙ c.number.ensures.value in
    let here = user_part_stands f m u p within is same T h in
    let has = inode_loaded u n T p here (of_user_part f m u p within is same (Knows u T (AnInode n)) known) (taken T c.args.place there) in
    absurd (let z : false ≡ true = c.if-not-has_inode.ensures.told u T here has in cc)

pub returns-else-not-has_inode-clause-err_known : goal.returns-else-not-has_inode-clause-err_known
returns-else-not-has_inode-clause-err_known c T h =
    let f = c.args.self.now in
    let u = c.args.place.0 in
    let m = c.from.result in
    let p = c.in-Some.part.now in
    let within = ltb-true _ _ (sym c.in-Some.ensures.item.0) in
    let is = c.in-Some.ensures.value in
    let same = c.from.ensures ∙ c.number.ensures.value in
    let here = user_part_stands f m u p within is same T h in
    let q = c.exchange_inode.new.self in
    let r = c.exchange_inode.result in
    on_errs r (λ keeps s. known_kept f (with_user f m q) T (user_kept f m u p within is same q keeps) h (user_stays f m u p within is same q T h s)) c.exchange_inode.ensures.keeps (c.exchange_inode.ensures.err u T here)

pub returns-else-not-has_inode-clause-err_keeps : goal.returns-else-not-has_inode-clause-err_keeps
returns-else-not-has_inode-clause-err_keeps c =
    let f = c.args.self.now in
    let u = c.args.place.0 in
    let m = c.from.result in
    let p = c.in-Some.part.now in
    let within = ltb-true _ _ (sym c.in-Some.ensures.item.0) in
    let is = c.in-Some.ensures.value in
    let same = c.from.ensures ∙ c.number.ensures.value in
    let q = c.exchange_inode.new.self in
    let r = c.exchange_inode.result in
    on_err r (user_kept f m u p within is same q) c.exchange_inode.ensures.keeps

pub returns-else-not-has_inode-clause-keeps : goal.returns-else-not-has_inode-clause-keeps
returns-else-not-has_inode-clause-keeps c T h free =
    let f = c.args.self.now in
    let u = c.args.place.0 in
    let n = c.args.place.1 in
    let m = c.from.result in
    let p = c.in-Some.part.now in
    let within = ltb-true _ _ (sym c.in-Some.ensures.item.0) in
    let is = c.in-Some.ensures.value in
    let same = c.from.ensures ∙ c.number.ensures.value in
    let here = user_part_stands f m u p within is same T h in
    let q = c.exchange_inode.new.self in
    let r = c.exchange_inode.result in
    ok_or_err r c.exchange_inode.ensures.stays c.exchange_inode.ensures.keeps (λ stays. user_kept f m u p within is same q (kept_beside u n T p q here (free_none T c.args.place free) stays)) (user_kept f m u p within is same q)

pub returns-then-not-has_inode-clause-err_known : goal.returns-then-not-has_inode-clause-err_known
returns-then-not-has_inode-clause-err_known c T h =
    let f = c.args.self.now in
    let u = c.args.place.0 in
    let m = c.from.result in
    let p = c.in-Some.part.now in
    let within = ltb-true _ _ (sym c.in-Some.ensures.item.0) in
    let is = c.in-Some.ensures.value in
    let same = c.from.ensures ∙ c.number.ensures.value in
    let unchanged = user_stays f m u p within is same p T h (user_part_stands f m u p within is same T h) in
    known_kept f (with_user f m p) T (user_kept f m u p within is same p (all_itself p)) h unchanged

pub returns-then-not-has_inode-clause-err_keeps : goal.returns-then-not-has_inode-clause-err_keeps
returns-then-not-has_inode-clause-err_keeps c =
    let f = c.args.self.now in
    let u = c.args.place.0 in
    let m = c.from.result in
    let p = c.in-Some.part.now in
    let within = ltb-true _ _ (sym c.in-Some.ensures.item.0) in
    let is = c.in-Some.ensures.value in
    let same = c.from.ensures ∙ c.number.ensures.value in
    user_kept f m u p within is same p (all_itself p)

pub returns-then-not-has_inode-clause-keeps : goal.returns-then-not-has_inode-clause-keeps
returns-then-not-has_inode-clause-keeps c T h premise =
    let f = c.args.self.now in
    let u = c.args.place.0 in
    let m = c.from.result in
    let p = c.in-Some.part.now in
    let within = ltb-true _ _ (sym c.in-Some.ensures.item.0) in
    let is = c.in-Some.ensures.value in
    let same = c.from.ensures ∙ c.number.ensures.value in
    user_kept f m u p within is same p (all_itself p)

pub returns-in-None-clause-keeps : goal.returns-in-None-clause-keeps
returns-in-None-clause-keeps c T h free = all_kept c.args.self.now

pub returns-in-None-clause-known : goal.returns-in-None-clause-known
returns-in-None-clause-known c T i h stands meant =
    user_absent c.args.self.now c.from.result c.number.result (ltb-false _ _ (sym c.in-None.ensures.item.0)) c.from.ensures c.number.ensures.range T h

pub returns-in-None-clause-added : goal.returns-in-None-clause-added
returns-in-None-clause-added c T i h stands meant =
    user_absent c.args.self.now c.from.result c.number.result (ltb-false _ _ (sym c.in-None.ensures.item.0)) c.from.ensures c.number.ensures.range T h

pub returns-in-None-clause-succeeds : goal.returns-in-None-clause-succeeds
returns-in-None-clause-succeeds c T h known there =
    user_absent c.args.self.now c.from.result c.number.result (ltb-false _ _ (sym c.in-None.ensures.item.0)) c.from.ensures c.number.ensures.range T h

pub returns-else-not-has_inode-clause-beside : goal.returns-else-not-has_inode-clause-beside
returns-else-not-has_inode-clause-beside c =
    let f = c.args.self.now in
    let u = c.args.place.0 in
    let n = c.args.place.1 in
    let m = c.from.result in
    let p = c.in-Some.part.now in
    let within = ltb-true _ _ (sym c.in-Some.ensures.item.0) in
    let is = c.in-Some.ensures.value in
    let same = c.from.ensures ∙ c.number.ensures.value in
    on_ok c.exchange_inode.result (user_kept_beside f m u p within is same c.exchange_inode.new.self n) c.exchange_inode.ensures.stays

pub returns-in-None-clause-beside : goal.returns-in-None-clause-beside
returns-in-None-clause-beside c = kept_beside_itself c.args.self.now c.args.place
