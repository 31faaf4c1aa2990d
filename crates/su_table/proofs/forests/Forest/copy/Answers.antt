use Rattle.std.proofs.Common.{◌∙◌, ap, sym, ◌++◌}
use Rattle.std.specs.BTreeMap.{insert_entry}
use Rattle.su_bytes.specs.Place.{place_cmp}
use Rattle.su_node.proofs.Public.{copied_more}
use Rattle.su_table.proofs.Places.{place_cmp_total}
use Rattle.su_table.proofs.forests.Forest.copy.Goals as goal

-- the same where `insert` gave back an inode, which is dropped, and where it gave none
pub loop-place-preserved-in_ok-insert : goal.loop-place-preserved-in_ok-insert
loop-place-preserved-in_ok-insert c =
    copied_more place_cmp_total c.self.inside.inodes.entries c.loop-place.inodes.entries c.insert.new.self.entries c.next.new.self c.in-Some.place.now c.in-Some.inode.now
    c.into_iter-place-iterator.ensures.into_iter_gives.5 (ap (λ r. c.loop-place.inodes.entries ++ r) (sym c.in-Some.ensures.steps) ∙ c.loop-place.invariant)
    (c.in_ok-insert.ensures.entries ∙ ap (insert_entry place_cmp c.loop-place.inodes.entries c.in-Some.place.now) c.in_ok-copy.ensures.value)

pub loop-place-preserved : goal.loop-place-preserved
loop-place-preserved c =
    copied_more place_cmp_total c.self.inside.inodes.entries c.loop-place.inodes.entries c.insert.new.self.entries c.next.new.self c.in-Some.place.now c.in-Some.inode.now
    c.into_iter-place-iterator.ensures.into_iter_gives.5 (ap (λ r. c.loop-place.inodes.entries ++ r) (sym c.in-Some.ensures.steps) ∙ c.loop-place.invariant)
    (c.in_ok-insert.ensures.entries ∙ ap (insert_entry place_cmp c.loop-place.inodes.entries c.in-Some.place.now) c.in_ok-copy.ensures.value)

pub loop-file-preserved : goal.loop-file-preserved
loop-file-preserved c =
    copied_more place_cmp_total c.self.inside.pointers.entries c.loop-file.pointers.entries c.insert-in-loop-file.new.self.entries c.next-in-loop-file.new.self c.in-Some-2.file.now c.in-Some-2.place.now
    c.into_iter-file-iterator.ensures.into_iter_gives.5 (ap (λ r. c.loop-file.pointers.entries ++ r) (sym c.in-Some-2.ensures.steps) ∙ c.loop-file.invariant) c.in_ok-insert-2.ensures.entries
