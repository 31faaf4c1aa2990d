use Rattle.su_part.proofs.FreshLemmas.{none_copied, copied_next, all_copied, copied_user, copied_all}
use Rattle.su_part.proofs.users.UserPart.copy.Goals as goal

pub loop-number-init : goal.loop-number-init
loop-number-init c = none_copied _ _ _ c.into_iter-number-iterator.ensures.into_iter_gives.0 c.new-inodes.ensures.empty

-- the same where `insert` gave back an inode, which is dropped, and where it gave none
pub loop-number-preserved-in_ok-insert : goal.loop-number-preserved-in_ok-insert
loop-number-preserved-in_ok-insert c =
    copied_next _ c.loop-number.inodes.entries _ _ _ _ c.in-Some.inode.now c.in_ok-copy.field-0 c.into_iter-number-iterator.ensures.into_iter_gives.5 c.in-Some.ensures.steps c.loop-number.invariant
    c.in_ok-insert.ensures.entries c.in_ok-copy.ensures.stands c.in_ok-copy.ensures.all

pub loop-number-preserved-in_ok-insert-2 : goal.loop-number-preserved-in_ok-insert-2
loop-number-preserved-in_ok-insert-2 c =
    copied_next _ c.loop-number.inodes.entries _ _ _ _ c.in-Some.inode.now c.in_ok-copy.field-0 c.into_iter-number-iterator.ensures.into_iter_gives.5 c.in-Some.ensures.steps c.loop-number.invariant
    c.in_ok-insert.ensures.entries c.in_ok-copy.ensures.stands c.in_ok-copy.ensures.all

pub loop-number-preserved : goal.loop-number-preserved
loop-number-preserved c =
    copied_next _ c.loop-number.inodes.entries _ _ _ _ c.in-Some.inode.now c.in_ok-copy.field-0 c.into_iter-number-iterator.ensures.into_iter_gives.5 c.in-Some.ensures.steps c.loop-number.invariant
    c.in_ok-insert.ensures.entries c.in_ok-copy.ensures.stands c.in_ok-copy.ensures.all

pub returns-clause-stands : goal.returns-clause-stands
returns-clause-stands c u T h =
    copied_user c.args.self.now _ (all_copied _ _ _ c.in-None.ensures.steps.0 c.loop-number.invariant) u T h c.in_ok-copy-2.ensures.stands

pub returns-clause-all : goal.returns-clause-all
returns-clause-all c = copied_all c.args.self.now _ (all_copied _ _ _ c.in-None.ensures.steps.0 c.loop-number.invariant) c.in_ok-copy-2.ensures.reached
