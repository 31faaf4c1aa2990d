use Rattle.std.proofs.Common.{◌∙◌, sym, ap}
use Rattle.su_shared_items.specs.Shard.{item_under}
use Rattle.su_shared_items.proofs.Counting.{at_digest, found_by_digest, lent_has_digest}
use Rattle.su_shared_items.proofs.staying.StayingItems.get.Goals as goal

pub returns-clause-checked : goal.returns-clause-checked
returns-clause-checked c =
    lent_has_digest (λ item. item.now) c.get.result c.args.digest.now (λ v is.
    found_by_digest c.args.digest.now c.self.inside.items.entries c.self.invariant.digests v
    (sym (at_digest c.as_bytes.result.now c.args.digest.now c.self.inside.items.entries c.as_bytes.ensures) ∙ sym c.get.ensures.value ∙ is))

pub returns-clause-value : goal.returns-clause-value
returns-clause-value c =
    c.get.ensures.value
    ∙ at_digest c.as_bytes.result.now c.args.digest.now c.self.inside.items.entries c.as_bytes.ensures
    ∙ ap (λ s. item_under s.items c.args.digest.now) c.self.view_is
