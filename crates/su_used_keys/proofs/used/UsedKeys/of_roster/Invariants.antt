use Rattle.std.proofs.Common.{take}
use Rattle.su_used_keys.specs.UsedKeys.{HasJust}
use Rattle.su_used_keys.proofs.Sets.{keys_of}
use Rattle.su_used_keys.proofs.used.UsedKeys.of_roster.Given as goal

abbrev pub invariant-loop-user : goal.invariant-loop-user
invariant-loop-user l = HasJust (keys_of (take l.user-index l.user-items)) l.used
