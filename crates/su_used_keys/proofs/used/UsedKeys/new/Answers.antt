use Rattle.std.proofs.Common.{ap}
use Rattle.std.specs.List.{list_any}
use Rattle.std.specs.Cmp.Lexicographic.{pointwise}
use Rattle.su_bytes.specs.Keys.{is_among}
use Rattle.su_used_keys.specs.UsedKeys.{HasJust}
use Rattle.su_used_keys.proofs.used.UsedKeys.new.Goals as goal

pub returns : goal.returns
unfolding HasJust
returns c key = ap (λ keys. is_among keys key) c.new.ensures.empty
