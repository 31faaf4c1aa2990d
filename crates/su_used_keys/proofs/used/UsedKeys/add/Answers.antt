use Rattle.std.proofs.Common.{◌≡◌, true, false}
use Rattle.su_used_keys.specs.UsedKeys.{HasJust, HasRoom}
use Rattle.su_used_keys.proofs.Sets.{added}
use Rattle.su_used_keys.proofs.used.UsedKeys.add.Goals as goal

pub unreachable-requires : goal.unreachable-requires
unfolding HasRoom
unreachable-requires c = let bad : false ≡ true = c.in_default.ensures.succeeds c.requires in cc

pub returns : goal.returns
unfolding HasJust
returns c keys just = added keys _ _ c.args.key c.in-Ok.ensures.updates.0 just
