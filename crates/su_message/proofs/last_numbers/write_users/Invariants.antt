use Rattle.std.proofs.Common.{◌≡◌, ◌++◌, take}
use Rattle.std.specs.List.{flat_map}
use Rattle.su_message.specs.LastNumbers.{user_bytes}
use Rattle.su_message.proofs.last_numbers.write_users.Given as goal

abbrev pub invariant-loop-user : goal.invariant-loop-user
invariant-loop-user l = l.writer ≡ l.initial.writer ++ flat_map user_bytes (take l.user-index l.users)
