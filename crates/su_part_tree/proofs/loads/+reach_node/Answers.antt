use Rattle.std.proofs.Common.{arith}
use Rattle.std.proofs.lemmas.Result.{IfErr-weaker, err_from_is_err_and}
use Rattle.su_hash_tree.proofs.Sorts.{sort_of}
use Rattle.su_hash_tree.proofs.Standing.{at_Split}
use Rattle.su_part_tree.proofs.Loading.{encoding, clash_left, clash_right, alike_left, alike_right, no_earlier, failed_left, failed_right, with_left, with_right}
use Rattle.su_part_tree.proofs.loads.+reach_node.Goals as goal

pub returns-then-bit-least-clause-malformed : goal.returns-then-bit-least-clause-malformed
returns-then-bit-least-clause-malformed g t c is m alike h free =
    let j = at_Split (sort_of g.K.TreeKey g.V.TreeValue) m c.in-Split.is (c.in_ok-load_node.ensures.stands m h free) in
    absurd (omega (arith, c.from-bit.ensures, c.if-bit-least.true, no_earlier (sort_of g.K.TreeKey g.V.TreeValue) _ _ _ _ _ m j alike))

pub returns-then-bit-clause-stands : goal.returns-then-bit-clause-stands
returns-then-bit-clause-stands g t c m h free =
    let j = at_Split (sort_of g.K.TreeKey g.V.TreeValue) m c.in-Split.is (c.in_ok-load_node.ensures.stands m h free) in
    with_right (sort_of g.K.TreeKey g.V.TreeValue) _ _ _ _ m j _ (c.reach_node.ensures.stands j.right (rw c.deref_mut.ensures.value j.in_right) (clash_right (sort_of g.K.TreeKey g.V.TreeValue) (encoding g.K.TreeKey.bits g.K.TreeKey.bytes g.K.TreeKey.is_key g.V.TreeValue.bytes g.V.TreeValue.is_value g.met.K.TreeKey.short g.met.K.TreeKey.small g.met.K.TreeKey.told g.met.V.TreeValue.told) _ _ _ _ m _ _ j c.in_ok-load_node.ensures.no_more free))

pub returns-then-bit-clause-malformed : goal.returns-then-bit-clause-malformed
returns-then-bit-clause-malformed g t c is m alike h free =
    let j = at_Split (sort_of g.K.TreeKey g.V.TreeValue) m c.in-Split.is (c.in_ok-load_node.ensures.stands m h free) in
    c.reach_node.ensures.malformed is j.right (alike_right (sort_of g.K.TreeKey g.V.TreeValue) _ _ _ _ _ m j (omega (arith, c.from-bit.ensures))) (rw c.deref_mut.ensures.value j.in_right) (clash_right (sort_of g.K.TreeKey g.V.TreeValue) (encoding g.K.TreeKey.bits g.K.TreeKey.bytes g.K.TreeKey.is_key g.V.TreeValue.bytes g.V.TreeValue.is_value g.met.K.TreeKey.short g.met.K.TreeKey.small g.met.K.TreeKey.told g.met.V.TreeValue.told) _ _ _ _ m _ _ j c.in_ok-load_node.ensures.no_more free)

pub returns-else-bit-clause-stands : goal.returns-else-bit-clause-stands
returns-else-bit-clause-stands g t c m h free =
    let j = at_Split (sort_of g.K.TreeKey g.V.TreeValue) m c.in-Split.is (c.in_ok-load_node.ensures.stands m h free) in
    with_left (sort_of g.K.TreeKey g.V.TreeValue) _ _ _ _ m j _ (c.reach_node-else-bit.ensures.stands j.left (rw c.deref_mut-else-bit.ensures.value j.in_left) (clash_left (sort_of g.K.TreeKey g.V.TreeValue) (encoding g.K.TreeKey.bits g.K.TreeKey.bytes g.K.TreeKey.is_key g.V.TreeValue.bytes g.V.TreeValue.is_value g.met.K.TreeKey.short g.met.K.TreeKey.small g.met.K.TreeKey.told g.met.V.TreeValue.told) _ _ _ _ m _ _ j c.in_ok-load_node.ensures.no_more free))

pub returns-else-bit-clause-malformed : goal.returns-else-bit-clause-malformed
returns-else-bit-clause-malformed g t c is m alike h free =
    let j = at_Split (sort_of g.K.TreeKey g.V.TreeValue) m c.in-Split.is (c.in_ok-load_node.ensures.stands m h free) in
    c.reach_node-else-bit.ensures.malformed is j.left (alike_left (sort_of g.K.TreeKey g.V.TreeValue) _ _ _ _ _ m j (omega (arith, c.from-bit.ensures))) (rw c.deref_mut-else-bit.ensures.value j.in_left) (clash_left (sort_of g.K.TreeKey g.V.TreeValue) (encoding g.K.TreeKey.bits g.K.TreeKey.bytes g.K.TreeKey.is_key g.V.TreeValue.bytes g.V.TreeValue.is_value g.met.K.TreeKey.short g.met.K.TreeKey.small g.met.K.TreeKey.told g.met.V.TreeValue.told) _ _ _ _ m _ _ j c.in_ok-load_node.ensures.no_more free)

pub returns-in_err-load_node-clause-failed : goal.returns-in_err-load_node-clause-failed
returns-in_err-load_node-clause-failed g t c m h free =
    let p = err_from_is_err_and c.from_residual.result c.from_residual.ensures.1 in
    rw (p.1, p.2) (c.in_err-load_node.ensures.failed m h)

pub returns-then-bit-clause-failed : goal.returns-then-bit-clause-failed
returns-then-bit-clause-failed g t c m h free =
    let j = at_Split (sort_of g.K.TreeKey g.V.TreeValue) m c.in-Split.is (c.in_ok-load_node.ensures.stands m h free) in
    IfErr-weaker c.reach_node.result _ _ (λ e x. failed_right (sort_of g.K.TreeKey g.V.TreeValue) (encoding g.K.TreeKey.bits g.K.TreeKey.bytes g.K.TreeKey.is_key g.V.TreeValue.bytes g.V.TreeValue.is_value g.met.K.TreeKey.short g.met.K.TreeKey.small g.met.K.TreeKey.told g.met.V.TreeValue.told) _ _ _ _ m j (g.S.BlockSource.failed c.reach_node.new.source) e x) (c.reach_node.ensures.failed j.right (rw c.deref_mut.ensures.value j.in_right) (clash_right (sort_of g.K.TreeKey g.V.TreeValue) (encoding g.K.TreeKey.bits g.K.TreeKey.bytes g.K.TreeKey.is_key g.V.TreeValue.bytes g.V.TreeValue.is_value g.met.K.TreeKey.short g.met.K.TreeKey.small g.met.K.TreeKey.told g.met.V.TreeValue.told) _ _ _ _ m _ _ j c.in_ok-load_node.ensures.no_more free))

pub returns-else-bit-clause-failed : goal.returns-else-bit-clause-failed
returns-else-bit-clause-failed g t c m h free =
    let j = at_Split (sort_of g.K.TreeKey g.V.TreeValue) m c.in-Split.is (c.in_ok-load_node.ensures.stands m h free) in
    IfErr-weaker c.reach_node-else-bit.result _ _ (λ e x. failed_left (sort_of g.K.TreeKey g.V.TreeValue) (encoding g.K.TreeKey.bits g.K.TreeKey.bytes g.K.TreeKey.is_key g.V.TreeValue.bytes g.V.TreeValue.is_value g.met.K.TreeKey.short g.met.K.TreeKey.small g.met.K.TreeKey.told g.met.V.TreeValue.told) _ _ _ _ m j (g.S.BlockSource.failed c.reach_node-else-bit.new.source) e x) (c.reach_node-else-bit.ensures.failed j.left (rw c.deref_mut-else-bit.ensures.value j.in_left) (clash_left (sort_of g.K.TreeKey g.V.TreeValue) (encoding g.K.TreeKey.bits g.K.TreeKey.bytes g.K.TreeKey.is_key g.V.TreeValue.bytes g.V.TreeValue.is_value g.met.K.TreeKey.short g.met.K.TreeKey.small g.met.K.TreeKey.told g.met.V.TreeValue.told) _ _ _ _ m _ _ j c.in_ok-load_node.ensures.no_more free))

pub returns-then-bit-clause-follows : goal.returns-then-bit-clause-follows
returns-then-bit-clause-follows g t c = g.met.S.BlockSource.follows_on _ _ _ c.in_ok-load_node.ensures.follows c.reach_node.ensures.follows

pub returns-else-bit-clause-follows : goal.returns-else-bit-clause-follows
returns-else-bit-clause-follows g t c = g.met.S.BlockSource.follows_on _ _ _ c.in_ok-load_node.ensures.follows c.reach_node-else-bit.ensures.follows
