use Rattle.std.proofs.Common.{◌≡◌, sym, ap, ◌∙◌, subst, inl, inr}
use Rattle.std.specs.Prelude.{Contains, Some, None}
use Rattle.std.specs.Ordering.{nat_cmp}
use Rattle.std.specs.Cmp.Lexicographic.{slice_cmp}
use Rattle.std.specs.BTreeMap.{is_at}
use Rattle.std.specs.Map.{values_of, lookup}
use Rattle.sha2.specs.Sha256.{sha256}
use Rattle.su_block.specs.Memory.{held_under, held_with}
use Rattle.su_block.proofs.Holding.{found_has_digest, same_digest, equal_digest, under-insert, held-insert, kept-insert, more-insert, some_found, none_found, held_is, under_same, under_more}
use Rattle.su_block.proofs.memory.MemoryBlocks.hold.Goals as goal

pub returns-then-contains_key-clause-held : goal.returns-then-contains_key-clause-held
returns-then-contains_key-clause-held c =
    let key = c.as_bytes.result.now in
    let some = some_found (lookup (is_at (slice_cmp nat_cmp key)) c.self.inside.blocks.entries) (sym c.contains_key.ensures ∙ c.if-contains_key.true) in
    let found = found_has_digest (is_at (slice_cmp nat_cmp key)) key (same_digest key) c.self.inside.blocks.entries c.self.invariant some.0 some.1 in
    (some.0, subst (λ m. Contains m.items some.0) c.self.view_is found.0, found.1 ∙ c.as_bytes.ensures)

pub invariant_of-self-2 : goal.invariant_of-self-2
invariant_of-self-2 c =
    let key = c.as_bytes-2.result.now in
    let same = c.new.ensures ∙ c.in_ok-copy.ensures.items in
    rw c.in_ok-insert.ensures.entries (under-insert (slice_cmp nat_cmp) key c.new.result (equal_digest key) (ap sha256 same ∙ c.requires ∙ sym c.as_bytes-2.ensures) c.self.inside.blocks.entries c.self.invariant)

pub returns-clause-held : goal.returns-clause-held
returns-clause-held c =
    let key = c.as_bytes-2.result.now in
    let same = c.new.ensures ∙ c.in_ok-copy.ensures.items in
    (c.new.result, rw c.in_ok-insert.ensures.entries (held-insert (slice_cmp nat_cmp) key c.new.result c.self.inside.blocks.entries), ap sha256 same ∙ c.requires)

pub returns-clause-kept : goal.returns-clause-kept
returns-clause-kept c = λ s there.
    let key = c.as_bytes-2.result.now in
    let absent = none_found (lookup (is_at (slice_cmp nat_cmp c.as_bytes.result.now)) c.self.inside.blocks.entries) (sym c.contains_key.ensures ∙ c.if-contains_key.false) in
    let none = subst (λ k. lookup (is_at (slice_cmp nat_cmp k)) c.self.inside.blocks.entries ≡ None) (c.as_bytes.ensures ∙ sym c.as_bytes-2.ensures) absent in
    let was = subst (λ m. Contains m.items s) (sym c.self.view_is) there in
    rw c.in_ok-insert.ensures.entries (kept-insert (slice_cmp nat_cmp) key c.new.result c.self.inside.blocks.entries none s was)

pub returns-clause-more : goal.returns-clause-more
returns-clause-more c = λ s there.
    let key = c.as_bytes-2.result.now in
    let same = c.new.ensures ∙ c.in_ok-copy.ensures.items in
    elim (more-insert (slice_cmp nat_cmp) key c.new.result c.self.inside.blocks.entries s (subst (λ es. Contains (values_of es) s) c.in_ok-insert.ensures.entries there)) [
      | inl old ↦ inl (subst (λ m. Contains m.items s) c.self.view_is old)
      | inr new ↦ inr (new ∙ same)
    ]

pub returns-then-contains_key-clause-under : goal.returns-then-contains_key-clause-under
returns-then-contains_key-clause-under c =
    let key = c.as_bytes.result.now in
    let some = some_found (lookup (is_at (slice_cmp nat_cmp key)) c.self.inside.blocks.entries) (sym c.contains_key.ensures ∙ c.if-contains_key.true) in
    let own : sha256 c.args.item.now ≡ key = c.requires ∙ sym c.as_bytes.ensures in
    let there : held_under c.args.self.now.items (sha256 c.args.item.now) ≡ Some some.0 =
    ap (held_under c.args.self.now.items) own
    ∙ ap (λ m. held_under m.items key) (sym c.self.view_is)
    ∙ sym (held_is key c.self.inside.blocks.entries c.self.invariant)
    ∙ some.1 in
    (λ i d. under_same (held_under c.args.self.now.items) c.args.item.now some.0 there d i)

pub returns-clause-under : goal.returns-clause-under
returns-clause-under c =
    let key = c.as_bytes-2.result.now in
    let same = c.new.ensures ∙ c.in_ok-copy.ensures.items in
    let own : sha256 c.new.result ≡ key = ap sha256 same ∙ c.requires ∙ sym c.as_bytes-2.ensures in
    let absent = none_found (lookup (is_at (slice_cmp nat_cmp c.as_bytes.result.now)) c.self.inside.blocks.entries) (sym c.contains_key.ensures ∙ c.if-contains_key.false) in
    let none = subst (λ k. lookup (is_at (slice_cmp nat_cmp k)) c.self.inside.blocks.entries ≡ None) (c.as_bytes.ensures ∙ sym c.as_bytes-2.ensures) absent in
    let more = under_more key c.new.result own c.self.inside.blocks.entries c.self.invariant none in
    let here : held_under (values_of c.insert.new.self.entries) ≡ held_with (held_under (values_of c.self.inside.blocks.entries)) c.new.result =
    rw c.in_ok-insert.ensures.entries (λ i d. more d i) in
    here ∙ ap (λ m. held_with (held_under m.items) c.new.result) c.self.view_is ∙ ap (held_with (held_under c.args.self.now.items)) same
