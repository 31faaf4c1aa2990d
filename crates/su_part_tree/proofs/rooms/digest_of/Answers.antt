use Rattle.std.proofs.Common.{◌∙◌}
use Rattle.su_hash_tree.proofs.Sorts.{sort_of}
use Rattle.su_hash_tree.proofs.Standing.{loose_Stub, loose_Split, split_digest_is}
use Rattle.su_part_tree.proofs.Changed.{no_end}
use Rattle.su_part_tree.proofs.rooms.digest_of.Goals as goal

pub returns-in-Stub : goal.returns-in-Stub
returns-in-Stub g c m h split = absurd (loose_Stub (sort_of g.K.TreeKey g.V.TreeValue) m c.in-Stub.is h)

pub returns-in-Empty : goal.returns-in-Empty
returns-in-Empty g c m h split = absurd (no_end c.in-Empty.is split tt)

pub returns-in-Leaf : goal.returns-in-Leaf
returns-in-Leaf g c m h split = absurd (no_end c.in-Leaf.is split tt)

pub returns-in-Split : goal.returns-in-Split
returns-in-Split g c m h split =
    let s = loose_Split (sort_of g.K.TreeKey g.V.TreeValue) m c.in-Split.is h in
    c.split.ensures.hash ∙ rw (c.kept.ensures, c.kept-in-Split.ensures, c.deref.ensures, c.deref-in-Split.ensures) (split_digest_is (sort_of g.K.TreeKey g.V.TreeValue) _ _ _ s.left s.right m s.is s.parts s.in_left s.in_right)
