use Rattle.su_message.proofs.LastNumbersLemmas.{taken_last}
use Rattle.su_message.proofs.last_numbers.LastNumbers.read.Goals as goal

pub invariant_of-result : goal.invariant_of-result
invariant_of-result c = taken_last c.args.reader.now _ c.in_ok-users.users.items c.in_ok-users.ensures.found
