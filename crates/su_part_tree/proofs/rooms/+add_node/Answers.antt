use Rattle.std.proofs.Common.{◌∙◌, sym}
use Rattle.su_hash_tree.proofs.Sorts.{sort_of}
use Rattle.su_hash_tree.proofs.Standing.{at_Leaf, at_Split}
use Rattle.su_hash_tree.proofs.Changing.{above_a_leaf, above_here, down_left, down_right, placed_left, placed_right}
use Rattle.su_part_tree.proofs.rooms.+add_node.Goals as goal

pub returns-in-Leaf-clause-stands : goal.returns-in-Leaf-clause-stands
returns-in-Leaf-clause-stands g t c m h parts = let e = at_Leaf (sort_of g.K.TreeKey g.V.TreeValue) m c.in-Leaf.is h in c.fork_node-in-Leaf.ensures.stands m h (above_a_leaf (sort_of g.K.TreeKey g.V.TreeValue) m _ _ _ _ e.0 parts)

pub returns-then-at-bit-clause-stands : goal.returns-then-at-bit-clause-stands
returns-then-at-bit-clause-stands g t c m h parts = let j = at_Split (sort_of g.K.TreeKey g.V.TreeValue) m c.in-Split.is h in c.fork_node-then-at-bit.ensures.stands m j (above_here (sort_of g.K.TreeKey g.V.TreeValue) _ _ _ _ m _ j _ c.if-at-bit.true parts)

pub returns-then-bit-clause-stands : goal.returns-then-bit-clause-stands
returns-then-bit-clause-stands g t c m h parts =
    let j = at_Split (sort_of g.K.TreeKey g.V.TreeValue) m c.in-Split.is h in
    let bit = sym c.bit.ensures ∙ c.if-bit.true in
    let new = c.add_node.ensures.stands j.right (rw c.deref_mut.ensures.value j.in_right) (down_right (sort_of g.K.TreeKey g.V.TreeValue) _ _ _ _ m _ j _ c.if-at-bit.false parts bit) in
    c.refresh.ensures.stands _ (placed_right (sort_of g.K.TreeKey g.V.TreeValue) _ _ _ _ m _ j _ _ _ c.if-at-bit.false parts bit new) (λ e. e)

pub returns-else-bit-clause-stands : goal.returns-else-bit-clause-stands
returns-else-bit-clause-stands g t c m h parts =
    let j = at_Split (sort_of g.K.TreeKey g.V.TreeValue) m c.in-Split.is h in
    let bit = sym c.bit.ensures ∙ c.if-bit.false in
    let new = c.add_node-else-bit.ensures.stands j.left (rw c.deref_mut-else-bit.ensures.value j.in_left) (down_left (sort_of g.K.TreeKey g.V.TreeValue) _ _ _ _ m _ j _ c.if-at-bit.false parts bit) in
    c.refresh-else-bit.ensures.stands _ (placed_left (sort_of g.K.TreeKey g.V.TreeValue) _ _ _ _ m _ j _ _ _ c.if-at-bit.false parts bit new) (λ e. e)
