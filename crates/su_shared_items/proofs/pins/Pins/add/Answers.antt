use Rattle.std.proofs.Common.{◌≡◌, ◌+◌, ◌∙◌, ap, subst}
use Rattle.std.specs.Prelude.{Some, unwrap_or}
use Rattle.su_shared_items.specs.Section.{pins_of, Recounts, one_more}
use Rattle.su_shared_items.proofs.Counting.{at_digest}
use Rattle.su_shared_items.proofs.Pinning.{recounts_updated}
use Rattle.su_shared_items.proofs.pins.Pins.add.Goals as goal

pub returns-clause-added : goal.returns-clause-added
returns-clause-added c =
    let found : c.unwrap_or-count.result ≡ unwrap_or (pins_of c.self.inside.counts.entries c.args.digest.now) 0 =
    c.unwrap_or-count.ensures ∙ ap (λ o. unwrap_or o 0) (c.copied.ensures ∙ c.get.ensures.value ∙ at_digest c.as_bytes-key.result.now c.args.digest.now c.self.inside.counts.entries c.as_bytes-key.ensures) in
    subst (λ old. Recounts c.args.digest.now (one_more (pins_of old c.args.digest.now)) old c.insert.new.self.entries) c.self.view_is
    (subst (λ n. Recounts c.args.digest.now (Some (n + 1)) c.self.inside.counts.entries c.insert.new.self.entries) found
    (recounts_updated c.as_bytes-key.result.now c.args.digest.now (Some (c.unwrap_or-count.result + 1)) c.self.inside.counts.entries c.insert.new.self.entries c.as_bytes-key.ensures c.in_ok-insert.ensures.updates.0))
