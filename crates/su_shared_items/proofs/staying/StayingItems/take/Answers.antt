use Rattle.std.proofs.Common.{◌≡◌, ◌∙◌, sym, ap}
use Rattle.std.specs.Prelude.{Some}
use Rattle.std.specs.Map.{remove_entry}
use Rattle.std.specs.Str.{bytes_eq}
use Rattle.su_shared_items.specs.Shard.{item_under}
use Rattle.su_shared_items.proofs.Counting.{at_digest, removed_at_digest, counted-remove_entry, found_by_digest}
use Rattle.su_shared_items.proofs.staying.StayingItems.take.Goals as goal

pub returns-in_err-item-clause-value : goal.returns-in_err-item-clause-value
returns-in_err-item-clause-value c =
    c.from_residual.ensures ∙ sym c.in_err-item.was ∙ c.remove.ensures.value
    ∙ at_digest c.as_bytes.result.now c.args.digest.now c.self.inside.items.entries c.as_bytes.ensures
    ∙ ap (λ s. item_under s.items c.args.digest.now) c.self.view_is

pub returns-in_err-item-clause-items : goal.returns-in_err-item-clause-items
returns-in_err-item-clause-items c =
    c.remove.ensures.entries
    ∙ removed_at_digest c.as_bytes.result.now c.args.digest.now c.self.inside.items.entries c.as_bytes.ensures
    ∙ ap (λ s. remove_entry (bytes_eq c.args.digest.now) s.items) c.self.view_is

-- what is taken out was there
found : (c : goal.After-self-1) → item_under c.self.inside.items.entries c.args.digest.now ≡ Some c.in_ok-item.item
found c =
    sym (at_digest c.as_bytes.result.now c.args.digest.now c.self.inside.items.entries c.as_bytes.ensures)
    ∙ sym c.remove.ensures.value ∙ c.in_ok-item.was

pub overflow_sub-self : goal.overflow_sub-self
overflow_sub-self c =
    let was : item_under c.self.inside.items.entries c.args.digest.now ≡ Some c.in_ok-item.item =
    sym (at_digest c.as_bytes.result.now c.args.digest.now c.self.inside.items.entries c.as_bytes.ensures)
    ∙ sym c.remove.ensures.value ∙ c.in_ok-item.was in
    let left = counted-remove_entry (bytes_eq c.args.digest.now) c.self.inside.items.entries c.in_ok-item.item c.self.inside.taken c.self.inside.room c.self.invariant was in
    rw c.cost.ensures left.0

pub invariant_of-self-2 : goal.invariant_of-self-2
invariant_of-self-2 c =
    let left = counted-remove_entry (bytes_eq c.args.digest.now) c.self.inside.items.entries c.in_ok-item.item c.self.inside.taken c.self.inside.room c.self.invariant (found c) in
    rw (c.remove.ensures.entries, removed_at_digest c.as_bytes.result.now c.args.digest.now c.self.inside.items.entries c.as_bytes.ensures, c.cost.ensures) left.1

pub returns-clause-checked : goal.returns-clause-checked
returns-clause-checked c =
    found_by_digest c.args.digest.now c.self.inside.items.entries c.self.invariant.digests c.in_ok-item.item (found c)

pub returns-clause-value : goal.returns-clause-value
returns-clause-value c = sym (found c) ∙ ap (λ s. item_under s.items c.args.digest.now) c.self.view_is

pub returns-clause-items : goal.returns-clause-items
returns-clause-items c =
    c.remove.ensures.entries
    ∙ removed_at_digest c.as_bytes.result.now c.args.digest.now c.self.inside.items.entries c.as_bytes.ensures
    ∙ ap (λ s. remove_entry (bytes_eq c.args.digest.now) s.items) c.self.view_is
