use Rattle.std.proofs.Common.{◌+◌}
use Rattle.su_format.proofs.Public.{GoesOn}
use Rattle.su_message.specs.LastNumbers.{user_number_format}
use Rattle.su_message.proofs.last_numbers.read_users.Given as goal

abbrev pub invariant-loop : goal.invariant-loop
invariant-loop l =
    GoesOn user_number_format (λ u. u.0 + 1) l.count 0 l.initial.reader l.counter l.least l.reader l.users.items
