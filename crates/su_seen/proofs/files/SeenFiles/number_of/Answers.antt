use Rattle.std.proofs.Common.{ap, ◌∙◌}
use Rattle.std.specs.FinMap.{get}
use Rattle.su_seen.proofs.KeptMap.{kept_get}
use Rattle.su_seen.proofs.files.SeenFiles.number_of.Goals as goal

pub returns : goal.returns
returns c =
    c.copied.ensures ∙ c.get.ensures.value ∙ kept_get c.self.inside.numbers.entries c.args.path.now c.self.invariant
    ∙ ap (λ m. get m c.args.path.now) c.self.view_is
