use Rattle.std.proofs.Common.{arith}
use Rattle.su_format.proofs.Public.{goes_on_at_first, goes_on_after, goes_nowhere, goes_to_end, then_took, then_refused, first_refused, handed_on}
use Rattle.su_version.specs.Version.{number_format, vector_format}
use Rattle.su_version.proofs.versions.read_vector.Goals as goal

pub returns-in_err-size : goal.returns-in_err-size
unfolding vector_format
returns-in_err-size c = handed_on _ _ c.from_residual.ensures.1 (first_refused _ _ c.in_err-size.ensures)

pub loop-init : goal.loop-init
loop-init c = rw c.new-numbers.ensures.items (goes_on_at_first number_format (λ _. 0) c.in_ok-size.size 0 c.read_vector_size.new.reader)

pub returns-in_err-take_u64 : goal.returns-in_err-take_u64
unfolding vector_format number_format
returns-in_err-take_u64 c =
    handed_on _ _ c.from_residual-in_err-take_u64.ensures.1
    (then_refused _ _ c.in_ok-size.ensures (goes_nowhere number_format (λ _. 0) c.in_ok-size.size 0 c.read_vector_size.new.reader c.loop.counter 0 c.loop.reader c.loop.numbers.items _ (omega arith) c.in_err-take_u64.ensures.takes c.loop.invariant))

pub loop-preserved : goal.loop-preserved
unfolding number_format
loop-preserved c =
    rw c.in_ok-push.ensures.items
    (goes_on_after number_format (λ _. 0) c.in_ok-size.size 0 c.read_vector_size.new.reader c.loop.counter 0 c.loop.reader c.take_u64.new.self c.loop.numbers.items _ (omega arith) c.in_ok-take_u64.ensures.takes c.loop.invariant)

pub returns : goal.returns
unfolding vector_format
returns c =
    rw c.new.ensures
    (then_took _ _ c.in_ok-size.ensures (goes_to_end number_format (λ _. 0) c.in_ok-size.size 0 c.read_vector_size.new.reader c.loop.counter 0 c.loop.reader c.loop.numbers.items (omega arith) c.loop.invariant))
