use Rattle.std.proofs.Common.{◌∙◌}
use Rattle.su_used_keys.specs.UsedKeys.{HasJust}
use Rattle.su_used_keys.proofs.used.UsedKeys.has.Goals as goal

pub returns : goal.returns
unfolding HasJust
returns c keys just = c.contains.ensures ∙ just c.args.key.now
