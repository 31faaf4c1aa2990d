use Rattle.std.proofs.Common.{refl, sym, ◌∙◌}
use Rattle.std.proofs.lemmas.Bool.{ltb-false, ltb-true}
use Rattle.su_node.specs.InodeChange.InodeChange.{Made}
use Rattle.su_part.proofs.Public.{knows_inode}
use Rattle.su_part_forest.proofs.EditLifting.{free_at, on_err, small_inum, user_absent, user_edited, user_part_stands, user_stays}
use Rattle.su_part_forest.proofs.Lifting.{on_ok}
use Rattle.su_part_forest.proofs.Knowing.{on_errs, on_two, on_four, free_none, kept_beside, known_kept, known_put, made_known, ok_or_err}
use Rattle.su_part.specs.Known.{Knows}
use Rattle.su_part.specs.Known.Want.{AnInode}
use Rattle.su_table.specs.Edit.{Edit.Inodes, edit}
use Rattle.su_part_forest.proofs.EditLifting.{user_has, user_kept, user_known, with_user}
use Rattle.su_part_forest.proofs.Lifting.{all_kept}
use Rattle.su_part.proofs.UserLemmas.{all_itself}
use Rattle.su_part_forest.proofs.forests.PartForest.make_inode.Goals as goal

pub returns-else-not-has_inode-clause-ok : goal.returns-else-not-has_inode-clause-ok
returns-else-not-has_inode-clause-ok c T h =
    let f = c.args.self.now in
    let u = c.args.place.0 in
    let n = c.args.place.1 in
    let m = c.from.result in
    let p = c.in-Some.part.now in
    let within = ltb-true _ _ (sym c.in-Some.ensures.item.0) in
    let is = c.in-Some.ensures.value in
    let same = c.from.ensures ∙ c.number.ensures.value in
    let here = user_part_stands f m u p within is same T h in
    let small = small_inum c.number-number.result n c.number-number.ensures.range.1 c.number-number.ensures.value in
    let has = c.if-not-has_inode.ensures.found refl in
    on_ok c.make_inode.result (λ s. user_edited f m u p within is same c.make_inode.new.self T n (Made c.args.home c.args.kind) h s) (c.make_inode.ensures.ok u T here (knows_inode u T n p small here has))

pub returns-else-not-has_inode-clause-absent : goal.returns-else-not-has_inode-clause-absent
returns-else-not-has_inode-clause-absent c T h loaded =
    let f = c.args.self.now in
    let u = c.args.place.0 in
    let m = c.from.result in
    let p = c.in-Some.part.now in
    let within = ltb-true _ _ (sym c.in-Some.ensures.item.0) in
    let is = c.in-Some.ensures.value in
    let same = c.from.ensures ∙ c.number.ensures.value in
    let here = user_part_stands f m u p within is same T h in
    let has = c.if-not-has_inode.ensures.found refl in
    on_err c.make_inode.result (λ e. free_at T c.args.place e) (c.make_inode.ensures.absent u T here (has.there u T here))

pub returns-else-not-has_inode-clause-err : goal.returns-else-not-has_inode-clause-err
returns-else-not-has_inode-clause-err c T h =
    let f = c.args.self.now in
    let u = c.args.place.0 in
    let m = c.from.result in
    let p = c.in-Some.part.now in
    let within = ltb-true _ _ (sym c.in-Some.ensures.item.0) in
    let is = c.in-Some.ensures.value in
    let same = c.from.ensures ∙ c.number.ensures.value in
    let here = user_part_stands f m u p within is same T h in
    on_err c.make_inode.result (λ s. user_stays f m u p within is same c.make_inode.new.self T h s) (c.make_inode.ensures.err u T here)

pub returns-in-None-clause-ok : goal.returns-in-None-clause-ok
returns-in-None-clause-ok c T h =
    user_absent c.args.self.now c.from.result c.number.result (ltb-false _ _ (sym c.in-None.ensures.item.0)) c.from.ensures c.number.ensures.range T h

pub returns-else-not-has_inode-clause-known : goal.returns-else-not-has_inode-clause-known
returns-else-not-has_inode-clause-known c T h =
    let f = c.args.self.now in
    let u = c.args.place.0 in
    let n = c.args.place.1 in
    let m = c.from.result in
    let p = c.in-Some.part.now in
    let within = ltb-true _ _ (sym c.in-Some.ensures.item.0) in
    let is = c.in-Some.ensures.value in
    let same = c.from.ensures ∙ c.number.ensures.value in
    let here = user_part_stands f m u p within is same T h in
    let small = small_inum c.number-number.result n c.number-number.ensures.range.1 c.number-number.ensures.value in
    let has = c.if-not-has_inode.ensures.found refl in
    let q = c.make_inode.new.self in
    let r = c.make_inode.result in
    on_four r (λ stays some all s. user_known f m u p within is same q T n (Made c.args.home c.args.kind) h (made_known u n T (Made c.args.home c.args.kind) p q stays has small some all s))
    c.make_inode.ensures.stays c.make_inode.ensures.there c.make_inode.ensures.all (c.make_inode.ensures.ok u T here (knows_inode u T n p small here has))

pub returns-else-not-has_inode-clause-added : goal.returns-else-not-has_inode-clause-added
returns-else-not-has_inode-clause-added c T h =
    let f = c.args.self.now in
    let u = c.args.place.0 in
    let n = c.args.place.1 in
    let m = c.from.result in
    let p = c.in-Some.part.now in
    let within = ltb-true _ _ (sym c.in-Some.ensures.item.0) in
    let is = c.in-Some.ensures.value in
    let same = c.from.ensures ∙ c.number.ensures.value in
    let here = user_part_stands f m u p within is same T h in
    let small = small_inum c.number-number.result n c.number-number.ensures.range.1 c.number-number.ensures.value in
    let has = c.if-not-has_inode.ensures.found refl in
    let q = c.make_inode.new.self in
    let r = c.make_inode.result in
    on_two r (λ stays some. user_has f m u p within is same q (Knows u (edit T (Inodes (u, n) (Made c.args.home c.args.kind))) (AnInode n)) (known_put u n T (Made c.args.home c.args.kind) p q stays has small some))
    c.make_inode.ensures.stays c.make_inode.ensures.there

pub returns-else-not-has_inode-clause-err_known : goal.returns-else-not-has_inode-clause-err_known
returns-else-not-has_inode-clause-err_known c T h =
    let f = c.args.self.now in
    let u = c.args.place.0 in
    let m = c.from.result in
    let p = c.in-Some.part.now in
    let within = ltb-true _ _ (sym c.in-Some.ensures.item.0) in
    let is = c.in-Some.ensures.value in
    let same = c.from.ensures ∙ c.number.ensures.value in
    let here = user_part_stands f m u p within is same T h in
    let q = c.make_inode.new.self in
    let r = c.make_inode.result in
    on_errs r (λ keeps s. known_kept f (with_user f m q) T (user_kept f m u p within is same q keeps) h (user_stays f m u p within is same q T h s)) c.make_inode.ensures.keeps (c.make_inode.ensures.err u T here)

pub returns-else-not-has_inode-clause-err_keeps : goal.returns-else-not-has_inode-clause-err_keeps
returns-else-not-has_inode-clause-err_keeps c =
    let f = c.args.self.now in
    let u = c.args.place.0 in
    let m = c.from.result in
    let p = c.in-Some.part.now in
    let within = ltb-true _ _ (sym c.in-Some.ensures.item.0) in
    let is = c.in-Some.ensures.value in
    let same = c.from.ensures ∙ c.number.ensures.value in
    let q = c.make_inode.new.self in
    let r = c.make_inode.result in
    on_err r (user_kept f m u p within is same q) c.make_inode.ensures.keeps

pub returns-else-not-has_inode-clause-keeps : goal.returns-else-not-has_inode-clause-keeps
returns-else-not-has_inode-clause-keeps c T h free =
    let f = c.args.self.now in
    let u = c.args.place.0 in
    let n = c.args.place.1 in
    let m = c.from.result in
    let p = c.in-Some.part.now in
    let within = ltb-true _ _ (sym c.in-Some.ensures.item.0) in
    let is = c.in-Some.ensures.value in
    let same = c.from.ensures ∙ c.number.ensures.value in
    let here = user_part_stands f m u p within is same T h in
    let q = c.make_inode.new.self in
    let r = c.make_inode.result in
    ok_or_err r c.make_inode.ensures.stays c.make_inode.ensures.keeps (λ stays. user_kept f m u p within is same q (kept_beside u n T p q here (free_none T c.args.place free) stays)) (user_kept f m u p within is same q)

pub returns-then-not-has_inode-clause-err_known : goal.returns-then-not-has_inode-clause-err_known
returns-then-not-has_inode-clause-err_known c T h =
    let f = c.args.self.now in
    let u = c.args.place.0 in
    let m = c.from.result in
    let p = c.in-Some.part.now in
    let within = ltb-true _ _ (sym c.in-Some.ensures.item.0) in
    let is = c.in-Some.ensures.value in
    let same = c.from.ensures ∙ c.number.ensures.value in
    let unchanged = user_stays f m u p within is same p T h (user_part_stands f m u p within is same T h) in
    known_kept f (with_user f m p) T (user_kept f m u p within is same p (all_itself p)) h unchanged

pub returns-then-not-has_inode-clause-err_keeps : goal.returns-then-not-has_inode-clause-err_keeps
returns-then-not-has_inode-clause-err_keeps c =
    let f = c.args.self.now in
    let u = c.args.place.0 in
    let m = c.from.result in
    let p = c.in-Some.part.now in
    let within = ltb-true _ _ (sym c.in-Some.ensures.item.0) in
    let is = c.in-Some.ensures.value in
    let same = c.from.ensures ∙ c.number.ensures.value in
    user_kept f m u p within is same p (all_itself p)

pub returns-then-not-has_inode-clause-keeps : goal.returns-then-not-has_inode-clause-keeps
returns-then-not-has_inode-clause-keeps c T h premise =
    let f = c.args.self.now in
    let u = c.args.place.0 in
    let m = c.from.result in
    let p = c.in-Some.part.now in
    let within = ltb-true _ _ (sym c.in-Some.ensures.item.0) in
    let is = c.in-Some.ensures.value in
    let same = c.from.ensures ∙ c.number.ensures.value in
    user_kept f m u p within is same p (all_itself p)

pub returns-in-None-clause-keeps : goal.returns-in-None-clause-keeps
returns-in-None-clause-keeps c T h free = all_kept c.args.self.now

pub returns-in-None-clause-known : goal.returns-in-None-clause-known
returns-in-None-clause-known c T h =
    user_absent c.args.self.now c.from.result c.number.result (ltb-false _ _ (sym c.in-None.ensures.item.0)) c.from.ensures c.number.ensures.range T h

pub returns-in-None-clause-added : goal.returns-in-None-clause-added
returns-in-None-clause-added c T h =
    user_absent c.args.self.now c.from.result c.number.result (ltb-false _ _ (sym c.in-None.ensures.item.0)) c.from.ensures c.number.ensures.range T h
