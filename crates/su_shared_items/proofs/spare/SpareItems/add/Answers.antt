use Rattle.std.proofs.Common.{◌≡◌, ◌∙◌, ◌<◌, ◌≤◌, ◌+◌, ◌-◌, ◌^◌, sym, ap, arith, length, subst, inr}
use Rattle.std.specs.Str.{bytes_eq}
use Rattle.lru.specs.LruCache.{put_entries}
use Rattle.sha2.specs.Sha256.{sha256}
use Rattle.su_shared_items.specs.Shard.{cost_of, Spare, IsCounted, HasRoomFor, bytes_of, with_newest}
use Rattle.su_shared_items.proofs.Counting.{counted-put, put_is_newest, size_of}
use Rattle.su_shared_items.proofs.spare.SpareItems.add.Goals as goal
use Rattle.su_shared_items.proofs.spare.SpareItems.add.Goals.{in-Some, in_default}

pub overflow_sub-self : goal.overflow_sub-self
overflow_sub-self c =
    let few : length c.self-2.inside.items.entries < 2 ^ 63 = subst (λ n. n < 2 ^ 63) c.len-count.ensures.len c.len-count.ensures.fits in
    let own : sha256 c.args.item ≡ c.as_bytes.result.now = c.requires ∙ sym c.as_bytes.ensures in
    let fits : bytes_of c.self-2.inside.items.entries + cost_of c.args.item ≤ c.self-2.inside.room = rw (← c.cost-size.ensures) (subst (λ s. bytes_of s.items + c.cost-size.result ≤ s.room) (sym c.self-2.view_is) c.make_room.ensures.fits) in
    let put = counted-put c.self-2.inside.items c.as_bytes.result.now c.args.item c.self-2.inside.taken c.self-2.inside.room c.in_ok-older.older c.self-2.invariant.0 c.self-2.invariant.1 few own fits c.in_ok-older.ensures.old in
    rw (c.cost.ensures, c.cost-size.ensures) (subst (λ o. size_of o ≤ c.self-2.inside.taken + cost_of c.args.item) c.in-Some.is put.0)

pub invariant_of-self-in-Some : goal.invariant_of-self-in-Some
invariant_of-self-in-Some c =
    let few : length c.self-2.inside.items.entries < 2 ^ 63 = subst (λ n. n < 2 ^ 63) c.len-count.ensures.len c.len-count.ensures.fits in
    let own : sha256 c.args.item ≡ c.as_bytes.result.now = c.requires ∙ sym c.as_bytes.ensures in
    let fits : bytes_of c.self-2.inside.items.entries + cost_of c.args.item ≤ c.self-2.inside.room = rw (← c.cost-size.ensures) (subst (λ s. bytes_of s.items + c.cost-size.result ≤ s.room) (sym c.self-2.view_is) c.make_room.ensures.fits) in
    let put = counted-put c.self-2.inside.items c.as_bytes.result.now c.args.item c.self-2.inside.taken c.self-2.inside.room c.in_ok-older.older c.self-2.invariant.0 c.self-2.invariant.1 few own fits c.in_ok-older.ensures.old in (
      rw (c.in_ok-older.ensures.entries, c.cost.ensures, c.cost-size.ensures) (subst (λ o. IsCounted (put_entries bytes_eq c.self-2.inside.items c.as_bytes.result.now c.args.item) (c.self-2.inside.taken + cost_of c.args.item - size_of o) c.self-2.inside.room) c.in-Some.is put.1),
      rw c.in_ok-older.ensures.entries c.self-2.invariant.1,
    )

pub invariant_of-self-in_default : goal.invariant_of-self-in_default
invariant_of-self-in_default c =
    let few : length c.self-2.inside.items.entries < 2 ^ 63 = subst (λ n. n < 2 ^ 63) c.len-count.ensures.len c.len-count.ensures.fits in
    let own : sha256 c.args.item ≡ c.as_bytes.result.now = c.requires ∙ sym c.as_bytes.ensures in
    let fits : bytes_of c.self-2.inside.items.entries + cost_of c.args.item ≤ c.self-2.inside.room = rw (← c.cost-size.ensures) (subst (λ s. bytes_of s.items + c.cost-size.result ≤ s.room) (sym c.self-2.view_is) c.make_room.ensures.fits) in
    let put = counted-put c.self-2.inside.items c.as_bytes.result.now c.args.item c.self-2.inside.taken c.self-2.inside.room c.in_ok-older.older c.self-2.invariant.0 c.self-2.invariant.1 few own fits c.in_ok-older.ensures.old in
    let same : c.self-2.inside.taken + cost_of c.args.item - 0 ≡ c.self-2.inside.taken + cost_of c.args.item = omega arith in (
      rw (c.in_ok-older.ensures.entries, c.cost-size.ensures, ← same) (subst (λ o. IsCounted (put_entries bytes_eq c.self-2.inside.items c.as_bytes.result.now c.args.item) (c.self-2.inside.taken + cost_of c.args.item - size_of o) c.self-2.inside.room) c.in_default.is put.1),
      rw c.in_ok-older.ensures.entries c.self-2.invariant.1,
    )

-- the item is in front of what was left
added : (c : goal.Joined-older) → (between : Spare) × HasRoomFor (cost_of c.args.item) c.args.self.now between × (c.self-2.inside.room ≡ c.args.self.now.room) × (c.put.new.self.entries ≡ with_newest c.args.digest.now c.args.item between.items)
added c =
    let few : length c.self-2.inside.items.entries < 2 ^ 63 = subst (λ n. n < 2 ^ 63) c.len-count.ensures.len c.len-count.ensures.fits in
    let put = put_is_newest c.self-2.inside.items c.as_bytes.result.now c.args.item c.self-2.invariant.1 few in (
      c.make_room.new.self,
      subst (λ n. HasRoomFor n c.args.self.now c.make_room.new.self) c.cost-size.ensures c.make_room.ensures,
      ap (λ s. s.room) c.self-2.view_is ∙ c.make_room.ensures.room,
      ap (λ p. p.entries) c.in_ok-older.ensures.entries ∙ put ∙ ap (λ s. with_newest c.as_bytes.result.now c.args.item s.items) c.self-2.view_is ∙ ap (λ d. with_newest d c.args.item c.make_room.new.self.items) c.as_bytes.ensures,
    )

pub returns-clause-added : goal.returns-clause-added
returns-clause-added c = elim c.match-older.branch [
  | in-Some w ↦ rw w.self-is (inr (added c))
  | in_default w ↦ rw w.self-is (inr (added c))
]
