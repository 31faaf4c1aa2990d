use Rattle.std.proofs.Common.{◌≡◌, ◌∙◌, sym}
use Rattle.std.specs.Prelude.{None}
use Rattle.std.specs.Map.{lookup}
use Rattle.std.specs.Str.{bytes_eq}
use Rattle.su_shared_items.proofs.Counting.{counted-remove_entry, found_by_digest, none_removed}
use Rattle.su_shared_items.proofs.spare.SpareItems.take.Goals as goal

pub invariant_of-self : goal.invariant_of-self
invariant_of-self c =
    let none : lookup (bytes_eq c.as_bytes.result.now) c.self.inside.items.entries ≡ None = sym c.pop.ensures.value ∙ c.in_err-item.was in
    (rw (c.pop.ensures.entries, none_removed (bytes_eq c.as_bytes.result.now) c.self.inside.items.entries none) c.self.invariant.0, rw c.pop.ensures.entries c.self.invariant.1)

pub overflow_sub-self : goal.overflow_sub-self
overflow_sub-self c =
    let left = counted-remove_entry (bytes_eq c.as_bytes.result.now) c.self.inside.items.entries c.in_ok-item.item c.self.inside.taken c.self.inside.room c.self.invariant.0 (sym c.pop.ensures.value ∙ c.in_ok-item.was) in
    rw c.cost.ensures left.0

pub invariant_of-self-2 : goal.invariant_of-self-2
invariant_of-self-2 c =
    let left = counted-remove_entry (bytes_eq c.as_bytes.result.now) c.self.inside.items.entries c.in_ok-item.item c.self.inside.taken c.self.inside.room c.self.invariant.0 (sym c.pop.ensures.value ∙ c.in_ok-item.was) in
    (rw (c.pop.ensures.entries, c.cost.ensures) left.1, rw c.pop.ensures.entries c.self.invariant.1)

pub returns-clause-checked : goal.returns-clause-checked
returns-clause-checked c = found_by_digest c.as_bytes.result.now c.self.inside.items.entries c.self.invariant.0.digests c.in_ok-item.item (sym c.pop.ensures.value ∙ c.in_ok-item.was) ∙ c.as_bytes.ensures
