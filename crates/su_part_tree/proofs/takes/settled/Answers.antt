use Rattle.su_hash_tree.proofs.Sorts.{sort_of}
use Rattle.su_hash_tree.proofs.Changing.{both_stay}
use Rattle.su_part_tree.proofs.takes.settled.Goals as goal

pub returns-else-is_empty-2-clause-stands : goal.returns-else-is_empty-2-clause-stands
returns-else-is_empty-2-clause-stands g c m h =
    both_stay (sort_of g.K.TreeKey g.V.TreeValue) m c.in-Split.is h _ (rw c.deref.ensures at c.is_empty.ensures) c.if-is_empty.false (rw c.deref-in-Split.ensures at c.is_empty-in-Split.ensures) c.if-is_empty-2.false
    (rw (c.kept.ensures, c.kept-in-Split.ensures, c.deref-in-Split-2.ensures, c.deref-in-Split-3.ensures) at c.split-digest.ensures.hash)
