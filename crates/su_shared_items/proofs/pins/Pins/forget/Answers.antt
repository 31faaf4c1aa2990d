use Rattle.std.proofs.Common.{subst}
use Rattle.std.specs.Prelude.{None}
use Rattle.su_shared_items.specs.Section.{Recounts}
use Rattle.su_shared_items.proofs.Pinning.{recounts_updated}
use Rattle.su_shared_items.proofs.pins.Pins.forget.Goals as goal

pub returns : goal.returns
returns c =
    subst (λ old. Recounts c.args.digest.now None old c.remove.new.self.entries) c.self.view_is
    (recounts_updated c.as_bytes.result.now c.args.digest.now None c.self.inside.counts.entries c.remove.new.self.entries c.as_bytes.ensures c.remove.ensures.updates.0)
