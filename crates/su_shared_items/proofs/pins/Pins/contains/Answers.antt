use Rattle.std.proofs.Common.{◌∙◌, ap}
use Rattle.std.specs.Prelude.{is_some}
use Rattle.su_shared_items.specs.Section.{pins_of}
use Rattle.su_shared_items.proofs.Counting.{at_digest}
use Rattle.su_shared_items.proofs.pins.Pins.contains.Goals as goal

pub returns : goal.returns
returns c =
    c.contains_key.ensures
    ∙ ap is_some (at_digest c.as_bytes.result.now c.args.digest.now c.self.inside.counts.entries c.as_bytes.ensures ∙ ap (λ pins. pins_of pins c.args.digest.now) c.self.view_is)
