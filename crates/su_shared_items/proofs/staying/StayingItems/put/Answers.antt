use Rattle.std.proofs.Common.{◌≡◌, ◌∙◌, ◌≤◌, ◌+◌, sym, ap, arith}
use Rattle.std.specs.Prelude.{None, Some, is_some}
use Rattle.std.specs.Map.{lookup}
use Rattle.std.specs.BTreeMap.{is_at}
use Rattle.std.specs.Ordering.{nat_cmp}
use Rattle.std.specs.Cmp.Lexicographic.{slice_cmp}
use Rattle.sha2.specs.Sha256.{sha256}
use Rattle.su_shared_items.specs.Shard.{cost_of, item_under}
use Rattle.su_shared_items.proofs.Counting.{at_digest, counted-insert_entry, stays-insert, within_room}
use Rattle.su_shared_items.proofs.staying.StayingItems.put.Goals as goal

-- none was under the digest
none : (c : goal.After-self-1) → lookup (is_at (slice_cmp nat_cmp c.as_bytes.result.now)) c.self.inside.items.entries ≡ None
none c =
    at_digest c.as_bytes.result.now c.args.digest.now c.self.inside.items.entries c.as_bytes.ensures
    ∙ ap (λ s. item_under s.items c.args.digest.now) c.self.view_is ∙ c.requires.new

pub invariant_of-self-2 : goal.invariant_of-self-2
invariant_of-self-2 c =
    let own : sha256 c.in_ok-held.held ≡ c.as_bytes.result.now = ap sha256 c.in_ok-held.ensures.bytes ∙ c.requires.own ∙ sym c.as_bytes.ensures in
    let size : cost_of c.in_ok-held.held ≡ cost_of c.args.item.now = ap cost_of c.in_ok-held.ensures.bytes in
    let fits : c.self.inside.taken + cost_of c.in_ok-held.held ≤ c.self.inside.room = omega (arith, size, c.cost_of-cost.ensures, c.if-prove.false) in
    rw (c.in_ok-insert.ensures.entries, c.cost_of-cost.ensures, ← size) (counted-insert_entry c.as_bytes.result.now c.in_ok-held.held c.self.inside.items.entries c.self.inside.taken c.self.inside.room c.self.invariant own (none c) fits)

pub returns-clause-held : goal.returns-clause-held
returns-clause-held c =
    sym (at_digest c.as_bytes.result.now c.args.digest.now c.insert.new.self.entries c.as_bytes.ensures)
    ∙ c.in_ok-insert.ensures.updates.1 ∙ ap Some c.in_ok-held.ensures.bytes

pub returns-clause-stays : goal.returns-clause-stays
returns-clause-stays c = λ d item was.
    stays-insert c.as_bytes.result.now c.in_ok-held.held c.self.inside.items.entries c.insert.new.self.entries c.in_ok-insert.ensures.updates.0 (ap is_some (none c)) d item (ap (λ s. item_under s.items d) c.self.view_is ∙ was)

pub returns-clause-bounded : goal.returns-clause-bounded
returns-clause-bounded c =
    within_room c.insert.new.self.entries (c.self.inside.taken + c.cost_of-cost.result) c.self.inside.room (invariant_of-self-2 c)

pub returns-clause-spares : goal.returns-clause-spares
returns-clause-spares c =
    let taken = (invariant_of-self-2 c).counted in
    omega (arith, taken, c.share_of-room.ensures.value, c.if-self-room.false, c.if-cost-room.false)
