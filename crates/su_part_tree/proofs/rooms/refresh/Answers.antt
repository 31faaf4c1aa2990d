use Rattle.su_hash_tree.proofs.Sorts.{sort_of}
use Rattle.su_hash_tree.proofs.Standing.{loose_Stub, loose_Split, anew}
use Rattle.su_part_tree.proofs.Changed.{no_end}
use Rattle.su_part_tree.proofs.rooms.refresh.Goals as goal

pub returns-in-Stub-clause-stands : goal.returns-in-Stub-clause-stands
returns-in-Stub-clause-stands g c m h split = absurd (loose_Stub (sort_of g.K.TreeKey g.V.TreeValue) m c.in-Stub.is h)

pub returns-in-Empty-clause-stands : goal.returns-in-Empty-clause-stands
returns-in-Empty-clause-stands g c m h split = absurd (no_end c.in-Empty.is split tt)

pub returns-in-Leaf-clause-stands : goal.returns-in-Leaf-clause-stands
returns-in-Leaf-clause-stands g c m h split = absurd (no_end c.in-Leaf.is split tt)

pub returns-in-Split-clause-stands : goal.returns-in-Split-clause-stands
returns-in-Split-clause-stands g c m h split = anew (sort_of g.K.TreeKey g.V.TreeValue) m (loose_Split (sort_of g.K.TreeKey g.V.TreeValue) m c.in-Split.is h) (c.digest_of-digest.ensures m h split)
