use Rattle.std.proofs.Common.{◌∙◌, ◌≤◌, ap, subst}
use Rattle.std.specs.Prelude.{is_some}
use Rattle.su_shared_items.specs.Shard.{item_under, bytes_of}
use Rattle.su_shared_items.proofs.Counting.{at_digest, within_room}
use Rattle.su_shared_items.proofs.staying.StayingItems.contains.Goals as goal

pub returns-clause-found : goal.returns-clause-found
returns-clause-found c =
    c.contains_key.ensures
    ∙ ap is_some (at_digest c.as_bytes.result.now c.args.digest.now c.self.inside.items.entries c.as_bytes.ensures
    ∙ ap (λ s. item_under s.items c.args.digest.now) c.self.view_is)

pub returns-clause-bounded : goal.returns-clause-bounded
returns-clause-bounded c =
    subst (λ s. bytes_of s.items ≤ s.room) c.self.view_is (within_room c.self.inside.items.entries c.self.inside.taken c.self.inside.room c.self.invariant)
