use Rattle.std.proofs.Common.{◌∙◌}
use Rattle.su_used_keys.specs.UsedKeys.{HasJust, HasRoom}
use Rattle.su_used_keys.proofs.used.UsedKeys.reserve.Goals as goal

pub returns-clause-kept : goal.returns-clause-kept
unfolding HasJust
returns-clause-kept c keys just key = c.reserve.ensures.keys.2 key ∙ just key

pub returns-clause-room : goal.returns-clause-room
unfolding HasRoom
returns-clause-room c = c.reserve.ensures.ok
