use Rattle.std.proofs.Common.{[], arith}
use Rattle.su_format.proofs.Public.{goes_on_at_first, goes_on_after, goes_nowhere, goes_to_end, handed_on}
use Rattle.su_change.specs.Outline.{outlined_op}
use Rattle.su_change.specs.Outline.{outlined_ops}
use Rattle.su_change.proofs.outlines.read_operations.Goals as goal

pub returns-in_err-first : goal.returns-in_err-first
unfolding outlined_ops
returns-in_err-first c =
    let old = c.args.reader.now in
    handed_on _ _ c.from_residual.ensures.1
    (goes_nowhere (λ _. outlined_op) (λ _. 0) c.args.count 0 old 0 0 old [] _ (omega arith) c.in_err-first.ensures (goes_on_at_first (λ _. outlined_op) (λ _. 0) c.args.count 0 old))

pub loop-init : goal.loop-init
loop-init c =
    let old = c.args.reader.now in
    rw c.of-batch.ensures
    (goes_on_after (λ _. outlined_op) (λ _. 0) c.args.count 0 old 0 0 old c.read_operation.new.reader [] _ (omega arith) c.in_ok-first.ensures (goes_on_at_first (λ _. outlined_op) (λ _. 0) c.args.count 0 old))

pub returns-in_err-next : goal.returns-in_err-next
unfolding outlined_ops
returns-in_err-next c =
    let l = c.loop in
    handed_on _ _ c.from_residual-in_err-next.ensures.1
    (goes_nowhere (λ _. outlined_op) (λ _. 0) c.args.count 0 c.args.reader.now l.counter 0 l.reader l.batch _ (omega arith) c.in_err-next.ensures l.invariant)

pub loop-preserved : goal.loop-preserved
loop-preserved c =
    let l = c.loop in
    rw c.in_ok-push.ensures.ok
    (goes_on_after (λ _. outlined_op) (λ _. 0) c.args.count 0 c.args.reader.now l.counter 0 l.reader c.read_operation-in-loop.new.reader l.batch _ (omega arith) c.in_ok-next.ensures l.invariant)

pub returns : goal.returns
unfolding outlined_ops
returns c =
    let l = c.loop in
    goes_to_end (λ _. outlined_op) (λ _. 0) c.args.count 0 c.args.reader.now l.counter 0 l.reader l.batch (omega arith) l.invariant
