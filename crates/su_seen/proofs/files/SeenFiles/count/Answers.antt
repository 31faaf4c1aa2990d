use Rattle.std.proofs.Common.{ap, ◌∙◌}
use Rattle.std.specs.FinMap.{len}
use Rattle.su_seen.proofs.KeptMap.{kept_len}
use Rattle.su_seen.proofs.files.SeenFiles.count.Goals as goal

pub returns : goal.returns
returns c = c.len.ensures.len ∙ kept_len c.self.inside.numbers.entries c.self.invariant ∙ ap len c.self.view_is
