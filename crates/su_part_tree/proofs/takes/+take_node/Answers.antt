use Rattle.std.proofs.Common.{◌∙◌, sym, inr, refl}
use Rattle.su_hash_tree.proofs.Sorts.{sort_of}
use Rattle.su_hash_tree.proofs.Orders.{part_at}
use Rattle.su_hash_tree.proofs.Standing.{at_Empty, at_Leaf, at_Split, value_in_left, value_in_right}
use Rattle.su_hash_tree.proofs.Changing.{stub_known, stays, stays_leaf, nothing_out, other_out, leaf_out, known_left, known_right, torn_left, torn_right, same_left, same_right}
use Rattle.su_part_tree.proofs.Staying.{known_same, known_on_left, known_on_right, settled_left, settled_right}
use Rattle.su_part_tree.proofs.takes.+take_node.Goals as goal

pub returns-in-Stub-clause-stands : goal.returns-in-Stub-clause-stands
returns-in-Stub-clause-stands g t c m h known = stays (sort_of g.K.TreeKey g.V.TreeValue) m _ _ (stub_known (sort_of g.K.TreeKey g.V.TreeValue) m _ c.in-Stub.is known) h

pub returns-in-Stub-clause-stays : goal.returns-in-Stub-clause-stays
returns-in-Stub-clause-stays g t c m h known k was = known_same (sort_of g.K.TreeKey g.V.TreeValue) c.args.key.now k c.args.node.now m (stub_known (sort_of g.K.TreeKey g.V.TreeValue) m _ c.in-Stub.is known) was

pub returns-in-Empty-clause-none : goal.returns-in-Empty-clause-none
returns-in-Empty-clause-none g t c m h known untaken = nothing_out (sort_of g.K.TreeKey g.V.TreeValue) m _ (at_Empty (sort_of g.K.TreeKey g.V.TreeValue) m c.in-Empty.is h).0

pub returns-in-Empty-clause-stands : goal.returns-in-Empty-clause-stands
returns-in-Empty-clause-stands g t c m h known = stays (sort_of g.K.TreeKey g.V.TreeValue) m _ _ (nothing_out (sort_of g.K.TreeKey g.V.TreeValue) m _ (at_Empty (sort_of g.K.TreeKey g.V.TreeValue) m c.in-Empty.is h).0) h

pub returns-in-Some-clause-none : goal.returns-in-Some-clause-none
returns-in-Some-clause-none g t c m h known untaken = other_out (sort_of g.K.TreeKey g.V.TreeValue) m _ _ _ _ (at_Leaf (sort_of g.K.TreeKey g.V.TreeValue) m c.in-Leaf.is h).0 (part_at _ _ _ c.in-Some.ensures)

pub returns-in-Some-clause-stands : goal.returns-in-Some-clause-stands
returns-in-Some-clause-stands g t c m h known = let e = at_Leaf (sort_of g.K.TreeKey g.V.TreeValue) m c.in-Leaf.is h in stays_leaf (sort_of g.K.TreeKey g.V.TreeValue) m _ _ _ _ (other_out (sort_of g.K.TreeKey g.V.TreeValue) m _ _ _ _ e.0 (part_at _ _ _ c.in-Some.ensures)) e

pub returns-in-None-clause-stands : goal.returns-in-None-clause-stands
returns-in-None-clause-stands g t c m h known =
    let e = at_Leaf (sort_of g.K.TreeKey g.V.TreeValue) m c.in-Leaf.is h in
    rw c.clear.ensures (leaf_out (sort_of g.K.TreeKey g.V.TreeValue) m _ _ _ _ e.0 c.in-None.ensures refl)

pub returns-then-take_node-clause-stands : goal.returns-then-take_node-clause-stands
returns-then-take_node-clause-stands g t c m h known =
    let j = at_Split (sort_of g.K.TreeKey g.V.TreeValue) m c.in-Split.is h in
    let bit = sym c.bit.ensures ∙ c.if-bit.true in
    c.settle.ensures.stands _ (torn_right (sort_of g.K.TreeKey g.V.TreeValue) _ _ _ _ m _ j _ bit (c.take_node.ensures.stands j.right (rw c.deref_mut.ensures.value j.in_right) (rw c.deref_mut.ensures.value (known_right (sort_of g.K.TreeKey g.V.TreeValue) _ _ _ _ m _ j c.in-Split.is bit known))) (c.take_node.ensures.some j.right (rw c.deref_mut.ensures.value j.in_right) (rw c.deref_mut.ensures.value (known_right (sort_of g.K.TreeKey g.V.TreeValue) _ _ _ _ m _ j c.in-Split.is bit known)) c.if-take_node.true))

pub returns-then-take_node-clause-some : goal.returns-then-take_node-clause-some
returns-then-take_node-clause-some g t c m h known taken =
    let j = at_Split (sort_of g.K.TreeKey g.V.TreeValue) m c.in-Split.is h in
    let bit = sym c.bit.ensures ∙ c.if-bit.true in
    inr (torn_right (sort_of g.K.TreeKey g.V.TreeValue) _ _ _ _ m _ j _ bit (c.take_node.ensures.stands j.right (rw c.deref_mut.ensures.value j.in_right) (rw c.deref_mut.ensures.value (known_right (sort_of g.K.TreeKey g.V.TreeValue) _ _ _ _ m _ j c.in-Split.is bit known))) (c.take_node.ensures.some j.right (rw c.deref_mut.ensures.value j.in_right) (rw c.deref_mut.ensures.value (known_right (sort_of g.K.TreeKey g.V.TreeValue) _ _ _ _ m _ j c.in-Split.is bit known)) c.if-take_node.true)).some

pub returns-then-take_node-clause-stays : goal.returns-then-take_node-clause-stays
returns-then-take_node-clause-stays g t c m h known k was =
    let j = at_Split (sort_of g.K.TreeKey g.V.TreeValue) m c.in-Split.is h in
    let bit = sym c.bit.ensures ∙ c.if-bit.true in
    settled_right (sort_of g.K.TreeKey g.V.TreeValue) _ _ _ _ m _ j _ bit (c.take_node.ensures.stands j.right (rw c.deref_mut.ensures.value j.in_right) (rw c.deref_mut.ensures.value (known_right (sort_of g.K.TreeKey g.V.TreeValue) _ _ _ _ m _ j c.in-Split.is bit known))) _ k (c.settle.ensures.reached k)
    (known_on_right (sort_of g.K.TreeKey g.V.TreeValue) _ _ _ _ m _ j _ bit (c.take_node.ensures.stands j.right (rw c.deref_mut.ensures.value j.in_right) (rw c.deref_mut.ensures.value (known_right (sort_of g.K.TreeKey g.V.TreeValue) _ _ _ _ m _ j c.in-Split.is bit known))) (λ k x. c.take_node.ensures.stays j.right (rw c.deref_mut.ensures.value j.in_right) (rw c.deref_mut.ensures.value (known_right (sort_of g.K.TreeKey g.V.TreeValue) _ _ _ _ m _ j c.in-Split.is bit known)) k (rw c.deref_mut.ensures.value x)) c.in-Split.is k was)

pub returns-else-take_node-clause-none : goal.returns-else-take_node-clause-none
returns-else-take_node-clause-none g t c m h known untaken =
    let j = at_Split (sort_of g.K.TreeKey g.V.TreeValue) m c.in-Split.is h in
    let bit = sym c.bit.ensures ∙ c.if-bit.true in
    (c.take_node.ensures.none j.right (rw c.deref_mut.ensures.value j.in_right) (rw c.deref_mut.ensures.value (known_right (sort_of g.K.TreeKey g.V.TreeValue) _ _ _ _ m _ j c.in-Split.is bit known)) c.if-take_node.false) ∙ value_in_right (sort_of g.K.TreeKey g.V.TreeValue) _ _ _ _ m _ j bit

pub returns-else-take_node-clause-stands : goal.returns-else-take_node-clause-stands
returns-else-take_node-clause-stands g t c m h known =
    let j = at_Split (sort_of g.K.TreeKey g.V.TreeValue) m c.in-Split.is h in
    let bit = sym c.bit.ensures ∙ c.if-bit.true in
    same_right (sort_of g.K.TreeKey g.V.TreeValue) _ _ _ _ m _ j _ bit (c.take_node.ensures.none j.right (rw c.deref_mut.ensures.value j.in_right) (rw c.deref_mut.ensures.value (known_right (sort_of g.K.TreeKey g.V.TreeValue) _ _ _ _ m _ j c.in-Split.is bit known)) c.if-take_node.false) (c.take_node.ensures.stands j.right (rw c.deref_mut.ensures.value j.in_right) (rw c.deref_mut.ensures.value (known_right (sort_of g.K.TreeKey g.V.TreeValue) _ _ _ _ m _ j c.in-Split.is bit known)))

pub returns-else-take_node-clause-stays : goal.returns-else-take_node-clause-stays
returns-else-take_node-clause-stays g t c m h known k was =
    let j = at_Split (sort_of g.K.TreeKey g.V.TreeValue) m c.in-Split.is h in
    let bit = sym c.bit.ensures ∙ c.if-bit.true in
    known_on_right (sort_of g.K.TreeKey g.V.TreeValue) _ _ _ _ m _ j _ bit (c.take_node.ensures.stands j.right (rw c.deref_mut.ensures.value j.in_right) (rw c.deref_mut.ensures.value (known_right (sort_of g.K.TreeKey g.V.TreeValue) _ _ _ _ m _ j c.in-Split.is bit known))) (λ k x. c.take_node.ensures.stays j.right (rw c.deref_mut.ensures.value j.in_right) (rw c.deref_mut.ensures.value (known_right (sort_of g.K.TreeKey g.V.TreeValue) _ _ _ _ m _ j c.in-Split.is bit known)) k (rw c.deref_mut.ensures.value x)) c.in-Split.is k was

pub returns-then-take_node-2-clause-stands : goal.returns-then-take_node-2-clause-stands
returns-then-take_node-2-clause-stands g t c m h known =
    let j = at_Split (sort_of g.K.TreeKey g.V.TreeValue) m c.in-Split.is h in
    let bit = sym c.bit.ensures ∙ c.if-bit.false in
    c.settle-then-take_node-2.ensures.stands _ (torn_left (sort_of g.K.TreeKey g.V.TreeValue) _ _ _ _ m _ j _ bit (c.take_node-else-bit.ensures.stands j.left (rw c.deref_mut-else-bit.ensures.value j.in_left) (rw c.deref_mut-else-bit.ensures.value (known_left (sort_of g.K.TreeKey g.V.TreeValue) _ _ _ _ m _ j c.in-Split.is bit known))) (c.take_node-else-bit.ensures.some j.left (rw c.deref_mut-else-bit.ensures.value j.in_left) (rw c.deref_mut-else-bit.ensures.value (known_left (sort_of g.K.TreeKey g.V.TreeValue) _ _ _ _ m _ j c.in-Split.is bit known)) c.if-take_node-2.true))

pub returns-then-take_node-2-clause-some : goal.returns-then-take_node-2-clause-some
returns-then-take_node-2-clause-some g t c m h known taken =
    let j = at_Split (sort_of g.K.TreeKey g.V.TreeValue) m c.in-Split.is h in
    let bit = sym c.bit.ensures ∙ c.if-bit.false in
    inr (torn_left (sort_of g.K.TreeKey g.V.TreeValue) _ _ _ _ m _ j _ bit (c.take_node-else-bit.ensures.stands j.left (rw c.deref_mut-else-bit.ensures.value j.in_left) (rw c.deref_mut-else-bit.ensures.value (known_left (sort_of g.K.TreeKey g.V.TreeValue) _ _ _ _ m _ j c.in-Split.is bit known))) (c.take_node-else-bit.ensures.some j.left (rw c.deref_mut-else-bit.ensures.value j.in_left) (rw c.deref_mut-else-bit.ensures.value (known_left (sort_of g.K.TreeKey g.V.TreeValue) _ _ _ _ m _ j c.in-Split.is bit known)) c.if-take_node-2.true)).some

pub returns-then-take_node-2-clause-stays : goal.returns-then-take_node-2-clause-stays
returns-then-take_node-2-clause-stays g t c m h known k was =
    let j = at_Split (sort_of g.K.TreeKey g.V.TreeValue) m c.in-Split.is h in
    let bit = sym c.bit.ensures ∙ c.if-bit.false in
    settled_left (sort_of g.K.TreeKey g.V.TreeValue) _ _ _ _ m _ j _ bit (c.take_node-else-bit.ensures.stands j.left (rw c.deref_mut-else-bit.ensures.value j.in_left) (rw c.deref_mut-else-bit.ensures.value (known_left (sort_of g.K.TreeKey g.V.TreeValue) _ _ _ _ m _ j c.in-Split.is bit known))) _ k (c.settle-then-take_node-2.ensures.reached k)
    (known_on_left (sort_of g.K.TreeKey g.V.TreeValue) _ _ _ _ m _ j _ bit (c.take_node-else-bit.ensures.stands j.left (rw c.deref_mut-else-bit.ensures.value j.in_left) (rw c.deref_mut-else-bit.ensures.value (known_left (sort_of g.K.TreeKey g.V.TreeValue) _ _ _ _ m _ j c.in-Split.is bit known))) (λ k x. c.take_node-else-bit.ensures.stays j.left (rw c.deref_mut-else-bit.ensures.value j.in_left) (rw c.deref_mut-else-bit.ensures.value (known_left (sort_of g.K.TreeKey g.V.TreeValue) _ _ _ _ m _ j c.in-Split.is bit known)) k (rw c.deref_mut-else-bit.ensures.value x)) c.in-Split.is k was)

pub returns-else-take_node-2-clause-none : goal.returns-else-take_node-2-clause-none
returns-else-take_node-2-clause-none g t c m h known untaken =
    let j = at_Split (sort_of g.K.TreeKey g.V.TreeValue) m c.in-Split.is h in
    let bit = sym c.bit.ensures ∙ c.if-bit.false in
    (c.take_node-else-bit.ensures.none j.left (rw c.deref_mut-else-bit.ensures.value j.in_left) (rw c.deref_mut-else-bit.ensures.value (known_left (sort_of g.K.TreeKey g.V.TreeValue) _ _ _ _ m _ j c.in-Split.is bit known)) c.if-take_node-2.false) ∙ value_in_left (sort_of g.K.TreeKey g.V.TreeValue) _ _ _ _ m _ j bit

pub returns-else-take_node-2-clause-stands : goal.returns-else-take_node-2-clause-stands
returns-else-take_node-2-clause-stands g t c m h known =
    let j = at_Split (sort_of g.K.TreeKey g.V.TreeValue) m c.in-Split.is h in
    let bit = sym c.bit.ensures ∙ c.if-bit.false in
    same_left (sort_of g.K.TreeKey g.V.TreeValue) _ _ _ _ m _ j _ bit (c.take_node-else-bit.ensures.none j.left (rw c.deref_mut-else-bit.ensures.value j.in_left) (rw c.deref_mut-else-bit.ensures.value (known_left (sort_of g.K.TreeKey g.V.TreeValue) _ _ _ _ m _ j c.in-Split.is bit known)) c.if-take_node-2.false) (c.take_node-else-bit.ensures.stands j.left (rw c.deref_mut-else-bit.ensures.value j.in_left) (rw c.deref_mut-else-bit.ensures.value (known_left (sort_of g.K.TreeKey g.V.TreeValue) _ _ _ _ m _ j c.in-Split.is bit known)))

pub returns-else-take_node-2-clause-stays : goal.returns-else-take_node-2-clause-stays
returns-else-take_node-2-clause-stays g t c m h known k was =
    let j = at_Split (sort_of g.K.TreeKey g.V.TreeValue) m c.in-Split.is h in
    let bit = sym c.bit.ensures ∙ c.if-bit.false in
    known_on_left (sort_of g.K.TreeKey g.V.TreeValue) _ _ _ _ m _ j _ bit (c.take_node-else-bit.ensures.stands j.left (rw c.deref_mut-else-bit.ensures.value j.in_left) (rw c.deref_mut-else-bit.ensures.value (known_left (sort_of g.K.TreeKey g.V.TreeValue) _ _ _ _ m _ j c.in-Split.is bit known))) (λ k x. c.take_node-else-bit.ensures.stays j.left (rw c.deref_mut-else-bit.ensures.value j.in_left) (rw c.deref_mut-else-bit.ensures.value (known_left (sort_of g.K.TreeKey g.V.TreeValue) _ _ _ _ m _ j c.in-Split.is bit known)) k (rw c.deref_mut-else-bit.ensures.value x)) c.in-Split.is k was
