-- What becomes of the items that sessions pin.
use Rattle.std.proofs.Common.{◌≡◌, ℕ, ◌-◌, ◌<◌, ◌≤◌, Bool, true, false, cond, List, [], ◌∷◌, refl, sym, ◌∙◌, ap}
use Rattle.std.specs.Prelude.{Option, Some, None, is_some, nat_le, Result, Ok, Err, OnOk, OnErr}
use Rattle.std.specs.Map.{lookup, remove_entry}
use Rattle.std.specs.Str.{bytes_eq}
use Rattle.std.specs.BTreeMap.{is_at}
use Rattle.std.specs.Cmp.Lexicographic.{slice_cmp}
use Rattle.std.specs.Ordering.{nat_cmp}
use Rattle.std.proofs.lemmas.Bool.{le-leb, lt-leb}
use Rattle.std.proofs.lemmas.Slice.Eq.{bytes_eq-Decides}
use Rattle.std.proofs.lemmas.Map.Text.{is_eq-slice_cmp}
use Rattle.su_shared_items.specs.Shard.{Items, item_under}
use Rattle.su_shared_items.specs.Section.{Counts, pins_of, Recounts, one_fewer, is_last, PinnedStay}
use Rattle.su_shared_items.proofs.Counting.{by_digest, one_digest}

-- ---- one item and the others

-- what is a digest fails the test of another one
apart : (d e k : List ℕ) → bytes_eq d e ≡ false → k ≡ d → (b : Bool) → bytes_eq e k ≡ b → b ≡ false
apart d e k other is true same =
    let one : d ≡ e = sym is ∙ one_digest e k same in
    let yes : bytes_eq d e ≡ true = (bytes_eq-Decides d e).1 one in
    let no : true ≡ false = sym yes ∙ other in
    absurd (cc)
apart d e k other is false same = refl

left_at : {X : Type 0} (d e : List ℕ) (x : List ℕ × X) (xs rest : List (List ℕ × X)) → bytes_eq d e ≡ false → (b : Bool) → bytes_eq d x.0 ≡ b
    → lookup (bytes_eq e) rest ≡ lookup (bytes_eq e) xs
    → lookup (bytes_eq e) (cond b xs (x ∷ rest)) ≡ cond (bytes_eq e x.0) (Some x.1) (lookup (bytes_eq e) xs)
left_at d e x xs rest other true same is =
    sym (ap (λ b. cond b (Some x.1) (lookup (bytes_eq e) xs)) (apart d e x.0 other (one_digest d x.0 same) (bytes_eq e x.0) refl))
left_at d e x xs rest other false same is = ap (λ found. cond (bytes_eq e x.0) (Some x.1) found) is

-- what is taken out changes nothing of what is under another digest
pub others_left : {X : Type 0} (d e : List ℕ) → bytes_eq d e ≡ false → (es : List (List ℕ × X)) → lookup (bytes_eq e) (remove_entry (bytes_eq d) es) ≡ lookup (bytes_eq e) es
others_left d e other [] = refl
others_left d e other (x ∷ xs) = left_at d e x xs (remove_entry (bytes_eq d) xs) other (bytes_eq d x.0) refl (others_left d e other xs)

-- ---- how many pin an item

-- as a tree of counts is changed under one key
pub recounts_updated : (k digest : List ℕ) (count : Option ℕ) (old new : Counts) → k ≡ digest
    → ((q : List ℕ) → lookup (is_at (slice_cmp nat_cmp q)) new ≡ cond (is_at (slice_cmp nat_cmp k) q) count (lookup (is_at (slice_cmp nat_cmp q)) old))
    → Recounts digest count old new
recounts_updated k digest count old new same updates = record {
  each = λ d.
      sym (by_digest d new) ∙ updates d
      ∙ ap (λ b. cond b count (lookup (is_at (slice_cmp nat_cmp d)) old)) (is_eq-slice_cmp k d ∙ ap (λ e. bytes_eq e d) same)
      ∙ ap (λ found. cond (bytes_eq digest d) count found) (by_digest d old);
}

same_at : (digest d : List ℕ) (counts : Counts) (b : Bool) → bytes_eq digest d ≡ b → pins_of counts d ≡ cond b (pins_of counts digest) (pins_of counts d)
same_at digest d counts true same = ap (pins_of counts) (one_digest digest d same)
same_at digest d counts false other = refl

-- nothing is changed
pub recounts_same : (digest : List ℕ) (counts : Counts) → Recounts digest (pins_of counts digest) counts counts
recounts_same digest counts = record { each = λ d. same_at digest d counts (bytes_eq digest d) refl }

-- what is counted of the item itself
pub recounted_here : (digest : List ℕ) (count : Option ℕ) (old new : Counts) → Recounts digest count old new → pins_of new digest ≡ count
recounted_here digest count old new is =
    is.each digest ∙ ap (λ b. cond b count (pins_of old digest)) ((bytes_eq-Decides digest digest).1 refl)

twice_at : (b : Bool) (first second before : Option ℕ) → cond b second (cond b first before) ≡ cond b second before
twice_at true first second before = refl
twice_at false first second before = refl

-- counted twice, the second count stands
pub recounted_twice : (digest : List ℕ) (first second : Option ℕ) (old between new : Counts) → Recounts digest first old between → Recounts digest second between new → Recounts digest second old new
recounted_twice digest first second old between new was is = record {
  each = λ d. is.each d ∙ ap (λ found. cond (bytes_eq digest d) second found) (was.each d) ∙ twice_at (bytes_eq digest d) first second (pins_of old d);
}

-- ---- what is pinned stays

still : (old new : Items) → ((d item : List ℕ) → item_under old d ≡ Some item → item_under new d ≡ Some item) → (d : List ℕ) (found : Option (List ℕ)) → item_under old d ≡ found
    → is_some found ≡ true → is_some (item_under new d) ≡ true
still old new stays d None is some = absurd (cc)
still old new stays d (Some item) is some = ap is_some (stays d item is)

-- where all that stayed stays
pub pinned_stay : (pins : Counts) (old new : Items) → PinnedStay pins old → ((d item : List ℕ) → item_under old d ≡ Some item → item_under new d ≡ Some item) → PinnedStay pins new
pinned_stay pins old new was stays = record { each = λ d pinned. still old new stays d (item_under old d) refl (was.each d pinned) }

recounted_at : (digest d : List ℕ) (staying : Items) (count before : Option ℕ) (b : Bool) → bytes_eq digest d ≡ b → (is_some count ≡ true → is_some (item_under staying digest) ≡ true)
    → (is_some before ≡ true → is_some (item_under staying d) ≡ true) → is_some (cond b count before) ≡ true → is_some (item_under staying d) ≡ true
recounted_at digest d staying count before true same here there some = ap (λ k. is_some (item_under staying k)) (one_digest digest d same) ∙ here some
recounted_at digest d staying count before false other here there some = there some

-- where another number pins an item, which stays if any does
pub recounted_stay : (digest : List ℕ) (count : Option ℕ) (old new : Counts) (staying : Items) → PinnedStay old staying → (is_some count ≡ true → is_some (item_under staying digest) ≡ true)
    → Recounts digest count old new → PinnedStay new staying
recounted_stay digest count old new staying was here is = record {
  each = λ d pinned. recounted_at digest d staying count (pins_of old d) (bytes_eq digest d) refl here (was.each d) (sym (ap is_some (is.each d)) ∙ pinned);
}

-- where nobody pins it
pub forgotten_stay : (digest : List ℕ) (old new : Counts) (staying : Items) → PinnedStay old staying → Recounts digest None old new → PinnedStay new staying
forgotten_stay digest old new staying was is = recounted_stay digest None old new staying was (λ some. absurd (cc)) is

pub some_before : (count : Option ℕ) → is_some (one_fewer count) ≡ true → is_some count ≡ true
some_before None some = some
some_before (Some n) some = refl

-- where one fewer pins it
pub fewer_stay : (digest : List ℕ) (old new : Counts) (staying : Items) → PinnedStay old staying → Recounts digest (one_fewer (pins_of old digest)) old new → PinnedStay new staying
fewer_stay digest old new staying was is =
    recounted_stay digest (one_fewer (pins_of old digest)) old new staying was (λ some. was.each digest (some_before (pins_of old digest) some)) is

-- the last one leaves none
pub last_leaves_none : (count : Option ℕ) → is_last count ≡ true → one_fewer count ≡ None
last_leaves_none None last = refl
last_leaves_none (Some n) last = ap (λ b. cond b None (Some (n - 1))) last

removed_at : (digest d : List ℕ) (pins : Counts) (staying : Items) → pins_of pins digest ≡ None → (b : Bool) → bytes_eq digest d ≡ b → is_some (pins_of pins d) ≡ true
    → is_some (item_under staying d) ≡ true → is_some (item_under (remove_entry (bytes_eq digest) staying) d) ≡ true
removed_at digest d pins staying gone true same pinned there =
    let no : false ≡ true = sym (ap is_some (ap (pins_of pins) (one_digest digest d same) ∙ gone)) ∙ pinned in
    absurd (cc)
removed_at digest d pins staying gone false other pinned there = ap is_some (others_left digest d other staying) ∙ there

-- where an item that nobody pins stays no more
pub removed_stay : (digest : List ℕ) (pins : Counts) (staying : Items) → PinnedStay pins staying → pins_of pins digest ≡ None → PinnedStay pins (remove_entry (bytes_eq digest) staying)
removed_stay digest pins staying was gone = record {
  each = λ d pinned. removed_at digest d pins staying gone (bytes_eq digest d) refl pinned (was.each d pinned);
}

none_where : (count : Option ℕ) (b : Bool) → (is_some count ≡ true → b ≡ true) → b ≡ false → count ≡ None
none_where None b there gone = refl
none_where (Some n) b there gone = let no : true ≡ false = sym (there refl) ∙ gone in absurd (cc)

-- nobody pins what doesn't stay
pub none_pins : (digest : List ℕ) (pins : Counts) (staying : Items) → PinnedStay pins staying → is_some (item_under staying digest) ≡ false → pins_of pins digest ≡ None
none_pins digest pins staying was gone = none_where (pins_of pins digest) (is_some (item_under staying digest)) (was.each digest) gone

-- ---- a count that was found

-- one is the last, and leaves none
pub one_left : (o : Option ℕ) (n : ℕ) → o ≡ Some n → n ≤ 1 → (is_last o ≡ true) × (one_fewer o ≡ None)
one_left o n is few =
    let last : nat_le n 1 ≡ true = le-leb n 1 few in
    (ap is_last is ∙ last, ap one_fewer is ∙ ap (λ b. cond b None (Some (n - 1))) last)

-- of more one fewer is left
pub more_left : (o : Option ℕ) (n : ℕ) → o ≡ Some n → 1 < n → (is_last o ≡ false) × (one_fewer o ≡ Some (n - 1))
more_left o n is many =
    let more : nat_le n 1 ≡ false = lt-leb n 1 many in
    (ap is_last is ∙ more, ap one_fewer is ∙ ap (λ b. cond b None (Some (n - 1))) more)

-- ---- refusals that can't be

pub surely : {V E P : Type 0} (r : Result V E) (o : Option ℕ) (n : ℕ) → OnOk r P → OnErr r (o ≡ None) → o ≡ Some n → P
surely (Ok v) o n ok none some = ok
surely (Err e) o n ok none some = let no : None ≡ Some n = sym none ∙ some in absurd (cc)
