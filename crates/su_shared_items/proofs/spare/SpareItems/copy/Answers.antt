use Rattle.std.proofs.Common.{◌∙◌, sym, ap}
use Rattle.std.specs.Str.{bytes_eq}
use Rattle.sha2.specs.Sha256.{sha256}
use Rattle.su_shared_items.specs.Shard.{item_under}
use Rattle.su_shared_items.proofs.Counting.{counted-promoted, found_by_digest}
use Rattle.su_shared_items.proofs.spare.SpareItems.copy.Goals as goal
use Rattle.su_shared_items.proofs.spare.SpareItems.copy.Goals.{in-Some+in_ok-copy-in-Some, in-None}

pub invariant_of-self : goal.invariant_of-self
invariant_of-self c =
    rw c.get.follows.holds-at-none (counted-promoted (bytes_eq c.as_bytes.result.now) c.self.inside.items.entries c.self.inside.taken c.self.inside.room c.self.invariant.0, c.self.invariant.1)

pub invariant_of-self-2 : goal.invariant_of-self-2
invariant_of-self-2 c = elim c.match-get.branch [
  | in-Some+in_ok-copy-in-Some w ↦ rw w.self-inside-is (rw c.get.follows.holds-at-none (counted-promoted (bytes_eq c.as_bytes.result.now) c.self.inside.items.entries c.self.inside.taken c.self.inside.room c.self.invariant.0, c.self.invariant.1))
  | in-None w ↦ rw w.self-inside-is (rw c.get.follows.holds-at-none (counted-promoted (bytes_eq c.as_bytes.result.now) c.self.inside.items.entries c.self.inside.taken c.self.inside.room c.self.invariant.0, c.self.invariant.1))
]

pub returns-clause-checked : goal.returns-clause-checked
returns-clause-checked c = elim c.match-get.branch [
  | in-Some+in_ok-copy-in-Some w ↦ rw w.result-is (ap sha256 w.in_ok-copy-in-Some.ensures.bytes ∙ found_by_digest c.as_bytes.result.now c.self.inside.items.entries c.self.invariant.0.digests w.in-Some.item.now (sym w.in-Some.ensures.value) ∙ c.as_bytes.ensures)
  | in-None w ↦ rw w.result-is tt
]

pub returns-clause-none : goal.returns-clause-none
returns-clause-none c = elim c.match-get.branch [
  | in-Some+in_ok-copy-in-Some w ↦ rw w.result-is tt
  | in-None w ↦ rw w.result-is (sym (ap (λ s. item_under s.items c.args.digest.now) c.self.view_is) ∙ sym (ap (item_under c.self.inside.items.entries) c.as_bytes.ensures) ∙ sym w.in-None.ensures.value)
]
