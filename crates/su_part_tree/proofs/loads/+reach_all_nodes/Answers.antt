use Rattle.std.proofs.Common.{arith, sym, ap, Err, ◌∙◌}
use Rattle.std.proofs.lemmas.Result.{IfErr-weaker, err_from_is_err_and}
use Rattle.su_hash_tree.proofs.Sorts.{sort_of}
use Rattle.su_hash_tree.proofs.Standing.{at_Split, same_sides}
use Rattle.su_part_tree.proofs.Loading.{encoding, clash_left, clash_right, alike_left, alike_right, no_earlier, failed_left, failed_right, with_left}
use Rattle.su_part_tree.proofs.loads.+reach_all_nodes.Goals as goal

pub returns-in_err-load_node-clause-failed : goal.returns-in_err-load_node-clause-failed
returns-in_err-load_node-clause-failed g t c m h free =
    let p = err_from_is_err_and c.from_residual.result c.from_residual.ensures.1 in
    rw (p.1, p.2) (c.in_err-load_node.ensures.failed m h)

pub returns-then-bit-least-clause-malformed : goal.returns-then-bit-least-clause-malformed
returns-then-bit-least-clause-malformed g t c is m alike h free =
    let j = at_Split (sort_of g.K.TreeKey g.V.TreeValue) m c.in-Split.is (c.in_ok-load_node.ensures.stands m h free) in
    absurd (omega (arith, c.from-bit.ensures, c.if-bit-least.true, no_earlier (sort_of g.K.TreeKey g.V.TreeValue) _ _ _ _ _ m j alike))

pub returns-in_err-reach_all_nodes-in-Split-clause-stands : goal.returns-in_err-reach_all_nodes-in-Split-clause-stands
returns-in_err-reach_all_nodes-in-Split-clause-stands g t c m h free =
    let j = at_Split (sort_of g.K.TreeKey g.V.TreeValue) m c.in-Split.is (c.in_ok-load_node.ensures.stands m h free) in
    with_left (sort_of g.K.TreeKey g.V.TreeValue) _ _ _ _ m j _ (c.reach_all_nodes.ensures.stands j.left (rw c.deref_mut.ensures.value j.in_left) (clash_left (sort_of g.K.TreeKey g.V.TreeValue) (encoding g.K.TreeKey.bits g.K.TreeKey.bytes g.K.TreeKey.is_key g.V.TreeValue.bytes g.V.TreeValue.is_value g.met.K.TreeKey.short g.met.K.TreeKey.small g.met.K.TreeKey.told g.met.V.TreeValue.told) _ _ _ _ m _ _ j c.in_ok-load_node.ensures.no_more free))

pub returns-in_err-reach_all_nodes-in-Split-clause-malformed : goal.returns-in_err-reach_all_nodes-in-Split-clause-malformed
returns-in_err-reach_all_nodes-in-Split-clause-malformed g t c is m alike h free =
    let j = at_Split (sort_of g.K.TreeKey g.V.TreeValue) m c.in-Split.is (c.in_ok-load_node.ensures.stands m h free) in
    let p = err_from_is_err_and c.from_residual-in_err-reach_all_nodes-in-Split.result c.from_residual-in_err-reach_all_nodes-in-Split.ensures.1 in
    c.in_err-reach_all_nodes-in-Split.ensures.malformed (sym (p.1 ∙ ap Err p.2) ∙ is) j.left (alike_left (sort_of g.K.TreeKey g.V.TreeValue) _ _ _ _ _ m j (omega (arith, c.from-bit.ensures))) (rw c.deref_mut.ensures.value j.in_left) (clash_left (sort_of g.K.TreeKey g.V.TreeValue) (encoding g.K.TreeKey.bits g.K.TreeKey.bytes g.K.TreeKey.is_key g.V.TreeValue.bytes g.V.TreeValue.is_value g.met.K.TreeKey.short g.met.K.TreeKey.small g.met.K.TreeKey.told g.met.V.TreeValue.told) _ _ _ _ m _ _ j c.in_ok-load_node.ensures.no_more free)

pub returns-in_err-reach_all_nodes-in-Split-clause-failed : goal.returns-in_err-reach_all_nodes-in-Split-clause-failed
returns-in_err-reach_all_nodes-in-Split-clause-failed g t c m h free =
    let j = at_Split (sort_of g.K.TreeKey g.V.TreeValue) m c.in-Split.is (c.in_ok-load_node.ensures.stands m h free) in
    let p = err_from_is_err_and c.from_residual-in_err-reach_all_nodes-in-Split.result c.from_residual-in_err-reach_all_nodes-in-Split.ensures.1 in
    rw (p.1, p.2) (failed_left (sort_of g.K.TreeKey g.V.TreeValue) (encoding g.K.TreeKey.bits g.K.TreeKey.bytes g.K.TreeKey.is_key g.V.TreeValue.bytes g.V.TreeValue.is_value g.met.K.TreeKey.short g.met.K.TreeKey.small g.met.K.TreeKey.told g.met.V.TreeValue.told) _ _ _ _ m j (g.S.BlockSource.failed c.reach_all_nodes.new.source) _ (c.in_err-reach_all_nodes-in-Split.ensures.failed j.left (rw c.deref_mut.ensures.value j.in_left) (clash_left (sort_of g.K.TreeKey g.V.TreeValue) (encoding g.K.TreeKey.bits g.K.TreeKey.bytes g.K.TreeKey.is_key g.V.TreeValue.bytes g.V.TreeValue.is_value g.met.K.TreeKey.short g.met.K.TreeKey.small g.met.K.TreeKey.told g.met.V.TreeValue.told) _ _ _ _ m _ _ j c.in_ok-load_node.ensures.no_more free)))

pub returns-in_ok-reach_all_nodes-in-Split-clause-stands : goal.returns-in_ok-reach_all_nodes-in-Split-clause-stands
returns-in_ok-reach_all_nodes-in-Split-clause-stands g t c m h free =
    let j = at_Split (sort_of g.K.TreeKey g.V.TreeValue) m c.in-Split.is (c.in_ok-load_node.ensures.stands m h free) in
    same_sides (sort_of g.K.TreeKey g.V.TreeValue) m j (c.in_ok-reach_all_nodes-in-Split.ensures.stands j.left (rw c.deref_mut.ensures.value j.in_left) (clash_left (sort_of g.K.TreeKey g.V.TreeValue) (encoding g.K.TreeKey.bits g.K.TreeKey.bytes g.K.TreeKey.is_key g.V.TreeValue.bytes g.V.TreeValue.is_value g.met.K.TreeKey.short g.met.K.TreeKey.small g.met.K.TreeKey.told g.met.V.TreeValue.told) _ _ _ _ m _ _ j c.in_ok-load_node.ensures.no_more free)) (c.reach_all_nodes-in-Split.ensures.stands j.right (rw c.deref_mut-in-Split.ensures.value j.in_right) (clash_right (sort_of g.K.TreeKey g.V.TreeValue) (encoding g.K.TreeKey.bits g.K.TreeKey.bytes g.K.TreeKey.is_key g.V.TreeValue.bytes g.V.TreeValue.is_value g.met.K.TreeKey.short g.met.K.TreeKey.small g.met.K.TreeKey.told g.met.V.TreeValue.told) _ _ _ _ m _ _ j (λ s x. c.in_ok-load_node.ensures.no_more s (c.in_ok-reach_all_nodes-in-Split.ensures.no_more s x)) free))

pub returns-in_ok-reach_all_nodes-in-Split-clause-malformed : goal.returns-in_ok-reach_all_nodes-in-Split-clause-malformed
returns-in_ok-reach_all_nodes-in-Split-clause-malformed g t c is m alike h free =
    let j = at_Split (sort_of g.K.TreeKey g.V.TreeValue) m c.in-Split.is (c.in_ok-load_node.ensures.stands m h free) in
    c.reach_all_nodes-in-Split.ensures.malformed is j.right (alike_right (sort_of g.K.TreeKey g.V.TreeValue) _ _ _ _ _ m j (omega (arith, c.from-bit.ensures))) (rw c.deref_mut-in-Split.ensures.value j.in_right) (clash_right (sort_of g.K.TreeKey g.V.TreeValue) (encoding g.K.TreeKey.bits g.K.TreeKey.bytes g.K.TreeKey.is_key g.V.TreeValue.bytes g.V.TreeValue.is_value g.met.K.TreeKey.short g.met.K.TreeKey.small g.met.K.TreeKey.told g.met.V.TreeValue.told) _ _ _ _ m _ _ j (λ s x. c.in_ok-load_node.ensures.no_more s (c.in_ok-reach_all_nodes-in-Split.ensures.no_more s x)) free)

pub returns-in_ok-reach_all_nodes-in-Split-clause-failed : goal.returns-in_ok-reach_all_nodes-in-Split-clause-failed
returns-in_ok-reach_all_nodes-in-Split-clause-failed g t c m h free =
    let j = at_Split (sort_of g.K.TreeKey g.V.TreeValue) m c.in-Split.is (c.in_ok-load_node.ensures.stands m h free) in
    IfErr-weaker c.reach_all_nodes-in-Split.result _ _ (λ e x. failed_right (sort_of g.K.TreeKey g.V.TreeValue) (encoding g.K.TreeKey.bits g.K.TreeKey.bytes g.K.TreeKey.is_key g.V.TreeValue.bytes g.V.TreeValue.is_value g.met.K.TreeKey.short g.met.K.TreeKey.small g.met.K.TreeKey.told g.met.V.TreeValue.told) _ _ _ _ m j (g.S.BlockSource.failed c.reach_all_nodes-in-Split.new.source) e x) (c.reach_all_nodes-in-Split.ensures.failed j.right (rw c.deref_mut-in-Split.ensures.value j.in_right) (clash_right (sort_of g.K.TreeKey g.V.TreeValue) (encoding g.K.TreeKey.bits g.K.TreeKey.bytes g.K.TreeKey.is_key g.V.TreeValue.bytes g.V.TreeValue.is_value g.met.K.TreeKey.short g.met.K.TreeKey.small g.met.K.TreeKey.told g.met.V.TreeValue.told) _ _ _ _ m _ _ j (λ s x. c.in_ok-load_node.ensures.no_more s (c.in_ok-reach_all_nodes-in-Split.ensures.no_more s x)) free))
