use Rattle.std.proofs.Common.{◌∙◌, sym}
use Rattle.su_hash_tree.proofs.Sorts.{sort_of}
use Rattle.su_hash_tree.proofs.Orders.{part_at}
use Rattle.su_hash_tree.proofs.Sides.{value_same, value_other, value_nowhere}
use Rattle.su_hash_tree.proofs.Standing.{at_Split}
use Rattle.su_part_tree.proofs.Looking.{seen_left, seen_right}
use Rattle.su_part_tree.proofs.looks.+find_node.Goals as goal

pub returns-in-Stub : goal.returns-in-Stub
returns-in-Stub g t c m h = rw c.in-Stub.is (value_nowhere g.K.TreeKey.bits _)

pub returns-in-Empty : goal.returns-in-Empty
returns-in-Empty g t c m h = rw c.in-Empty.is (value_nowhere g.K.TreeKey.bits _)

pub returns-in-None : goal.returns-in-None
returns-in-None g t c m h = rw c.in-Leaf.is (value_same g.K.TreeKey.bits _ _ _ c.in-None.ensures)

pub returns-in-Some : goal.returns-in-Some
returns-in-Some g t c m h = rw c.in-Leaf.is (value_other g.K.TreeKey.bits _ _ _ _ (part_at _ _ _ c.in-Some.ensures))

pub returns-then-bit : goal.returns-then-bit
returns-then-bit g t c m h =
    let j = at_Split (sort_of g.K.TreeKey g.V.TreeValue) m c.in-Split.is h in
    let found = rw c.deref.ensures at c.find_node.ensures in
    rw c.in-Split.is (seen_right (sort_of g.K.TreeKey g.V.TreeValue) _ _ _ _ _ m j _ (found j.right j.in_right) (sym c.bit.ensures ∙ c.if-bit.true))

pub returns-else-bit : goal.returns-else-bit
returns-else-bit g t c m h =
    let j = at_Split (sort_of g.K.TreeKey g.V.TreeValue) m c.in-Split.is h in
    let found = rw c.deref-else-bit.ensures at c.find_node-else-bit.ensures in
    rw c.in-Split.is (seen_left (sort_of g.K.TreeKey g.V.TreeValue) _ _ _ _ _ m j _ (found j.left j.in_left) (sym c.bit.ensures ∙ c.if-bit.false))
