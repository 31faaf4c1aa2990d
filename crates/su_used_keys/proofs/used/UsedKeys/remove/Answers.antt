use Rattle.std.proofs.Common.{◌≡◌, ℕ, List}
use Rattle.su_used_keys.specs.UsedKeys.{HasJust}
use Rattle.su_used_keys.proofs.Sets.{removed}
use Rattle.su_used_keys.proofs.used.UsedKeys.remove.Goals as goal

pub returns : goal.returns
unfolding HasJust
returns c keys other just = removed keys _ _ c.args.key.now other c.remove.ensures.updates.0 just
