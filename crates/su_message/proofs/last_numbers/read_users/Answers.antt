use Rattle.std.proofs.Common.{◌+◌, arith}
use Rattle.std.specs.Prelude.{IfErr}
use Rattle.su_format.specs.Reading.{Refuses}
use Rattle.su_format.proofs.Public.{goes_on_at_first, goes_on_after, goes_nowhere, goes_to_end, then_took, then_refused, first_refused, handed_on_to}
use Rattle.su_message.specs.LastNumbers.{user_number_format, last_format}
use Rattle.su_message.proofs.last_numbers.read_users.Goals as goal

pub returns-in_err-count-clause-refused : goal.returns-in_err-count-clause-refused
unfolding last_format
returns-in_err-count-clause-refused c =
    handed_on_to (λ r. IfErr r (Refuses last_format c.args.reader.now)) _ _ c.from_residual.ensures.1
    (first_refused _ _ c.in_err-count.ensures.takes)

pub loop-init : goal.loop-init
loop-init c = rw c.new-users.ensures.items (goes_on_at_first user_number_format (λ u. u.0 + 1) c.in_ok-count.count 0 c.take_u8.new.self)

pub returns-in_err-user-clause-refused : goal.returns-in_err-user-clause-refused
unfolding last_format
returns-in_err-user-clause-refused c =
    handed_on_to (λ r. IfErr r (Refuses last_format c.args.reader.now)) _ _ c.from_residual-in_err-user.ensures.1
    (then_refused _ _ c.in_ok-count.ensures.takes (goes_nowhere user_number_format (λ u. u.0 + 1) c.in_ok-count.count 0 c.take_u8.new.self c.loop.counter c.loop.least c.loop.reader c.loop.users.items _ (omega arith) c.in_err-user.ensures c.loop.invariant))

pub loop-preserved : goal.loop-preserved
loop-preserved c =
    rw (c.in_ok-push.ensures.items, c.number-least.ensures.value)
    (goes_on_after user_number_format (λ u. u.0 + 1) c.in_ok-count.count 0 c.take_u8.new.self c.loop.counter c.loop.least c.loop.reader c.read_user.new.reader c.loop.users.items _ (omega arith) c.in_ok-user.ensures c.loop.invariant)

pub returns-clause-found : goal.returns-clause-found
unfolding last_format
returns-clause-found c =
    then_took _ _ c.in_ok-count.ensures.takes (goes_to_end user_number_format (λ u. u.0 + 1) c.in_ok-count.count 0 c.take_u8.new.self c.loop.counter c.loop.least c.loop.reader c.loop.users.items (omega arith) c.loop.invariant)
