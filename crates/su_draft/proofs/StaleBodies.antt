-- The stale bodies of a user, as they are found from number to number.
use Rattle.std.proofs.Common.{◌≡◌, ◌∙◌, ℕ, zero, suc, ◌+◌, ◌-◌, ◌<◌, ◌≤◌, Bool, true, false, cond, not, List, [], ◌∷◌, ◌++◌, map, Some, None, refl, sym, ap, arith, append_assoc, append-nil}
use Rattle.std.specs.Prelude.{filter, is_some}
use Rattle.std.specs.List.{range_with_len}
use Rattle.su_bytes.specs.Place.{Place}
use Rattle.su_node.specs.Field.{Field.KindOf, Value, Value.Nothing, Value.AKind, Value.ANumber, Value.ABlock, Value.AFile, Value.APlace}
use Rattle.su_table.specs.Tree.{Tree}
use Rattle.su_table.specs.Cell.{Cell.At, val}
use Rattle.su_table.specs.Query.{is_nothing, is_free_at}
use Rattle.su_table.specs.Free.{IsLeastTaken}
use Rattle.su_op.specs.DropBody.{group_home, unless_led}
use Rattle.su_op.specs.declared.operations.Op.{Op}
use Rattle.su_draft.specs.Number.{last_number}
use Rattle.su_draft.specs.Tidy.{is_stale, stale_from, drop_of, tidy_draft}
use Rattle.su_draft.proofs.LeastFree.{inum_range, range_inum}

-- ---- numbers that don't pass

skipped : (p : ℕ → Bool) (k from start len total : ℕ) → total ≡ k + len → start ≡ from + k → ((m : ℕ) → from ≤ m → m < start → p m ≡ false) → filter p (range_with_len from total) ≡ filter p (range_with_len start len)
skipped p zero from start len total e s none =
    let same : total ≡ len = omega (arith, e) in
    let here : from ≡ start = omega (arith, s) in
    ap (λ (n : ℕ). filter p (range_with_len from n)) same ∙ ap (λ (n : ℕ). filter p (range_with_len n len)) here
skipped p (suc k) from start len zero e s none = absurd (omega (arith, e))
skipped p (suc k) from start len (suc left) e s none =
    let first : p from ≡ false = none from (omega arith) (omega (arith, s)) in
    ap (λ b. cond b (from ∷ filter p (range_with_len (from + 1) left)) (filter p (range_with_len (from + 1) left))) first
    ∙ skipped p k (from + 1) start len left (omega (arith, e)) (omega (arith, s)) (λ m low high. none m (omega (arith, low)) high)

none_passes : (p : ℕ → Bool) (from len : ℕ) → ((m : ℕ) → from ≤ m → m < from + len → p m ≡ false) → filter p (range_with_len from len) ≡ []
none_passes p from zero none = refl
none_passes p from (suc len) none =
    let first : p from ≡ false = none from (omega arith) (omega arith) in
    ap (λ b. cond b (from ∷ filter p (range_with_len (from + 1) len)) (filter p (range_with_len (from + 1) len))) first
    ∙ none_passes p (from + 1) len (λ m low high. none m (omega (arith, low)) (omega (arith, high)))

-- the first one that may pass
next_passes : (p : ℕ → Bool) (from n len left : ℕ) → from ≤ n → len ≡ (n - from) + suc left → ((m : ℕ) → from ≤ m → m < n → p m ≡ false)
    → filter p (range_with_len from len) ≡ cond (p n) (n ∷ filter p (range_with_len (n + 1) left)) (filter p (range_with_len (n + 1) left))
next_passes p from n len left low long none = skipped p (n - from) from n (suc left) len long (omega (arith, low)) none

-- ---- bodies

-- where nothing stands no body is stale
unstale : (T : Tree) (p : Place) (v : Value) → not (is_nothing v) ≡ false → is_some (unless_led T p (group_home v)) ≡ false
unstale T p Nothing e = refl
unstale T p (AKind k h) e = absurd cc
unstale T p (ANumber n) e = absurd cc
unstale T p (ABlock l) e = absurd cc
unstale T p (AFile f) e = absurd cc
unstale T p (APlace q) e = absurd cc

free_unstale : (T : Tree) (a n : ℕ) → not (is_free_at T (a, n)) ≡ false → is_stale T a n ≡ false
free_unstale T a n e = unstale T (a, n) (val T (At (a, n) KindOf)) e

-- the stale bodies from a number on, by the next body that stands there
pub stale_next : (T : Tree) (a from n : ℕ) → IsLeastTaken (λ i. is_free_at T (a, i)) from (Some n)
    → stale_from T a from ≡ cond (is_stale T a n) (n ∷ stale_from T a (n + 1)) (stale_from T a (n + 1))
unfolding stale_from
stale_next T a from n least =
    let top = (inum_range n least.1).1 in
    next_passes (is_stale T a) from n (last_number + 1 - from) (last_number + 1 - (n + 1)) least.0 (omega (arith, least.0, top))
    (λ m low high. free_unstale T a m (least.3 m low high))

-- no body stands from there on
pub stale_none : (T : Tree) (a from : ℕ) → 1 ≤ from → IsLeastTaken (λ i. is_free_at T (a, i)) from None → stale_from T a from ≡ []
unfolding stale_from
stale_none T a from one least =
    none_passes (is_stale T a) from (last_number + 1 - from)
    (λ m low high. free_unstale T a m (least m low (range_inum m (omega (arith, one, low)) (omega (arith, low, high)))))

-- ---- their drops

-- those that are listed, and those of the bodies from a number on, are all
abbrev pub AreAll : Tree → ℕ → List Op → ℕ → Type 0
AreAll T a drops from = drops ++ map drop_of (stale_from T a from) ≡ tidy_draft T a

pub drops_init : (T : Tree) (a : ℕ) (drops : List Op) (from : ℕ) → drops ≡ [] → from ≡ 1 → AreAll T a drops from
unfolding tidy_draft
drops_init T a drops from none one =
    ap (λ ds. ds ++ map drop_of (stale_from T a from)) none ∙ ap (λ n. map drop_of (stale_from T a n)) one

-- behind the next body, by whether it is stale
next_is : (T : Tree) (a from n : ℕ) (stale : Bool) → IsLeastTaken (λ i. is_free_at T (a, i)) from (Some n) → is_stale T a n ≡ stale
    → stale_from T a from ≡ cond stale (n ∷ stale_from T a (n + 1)) (stale_from T a (n + 1))
next_is T a from n stale least is =
    stale_next T a from n least ∙ ap (λ b. cond b (n ∷ stale_from T a (n + 1)) (stale_from T a (n + 1))) is

pub drops_more : (T : Tree) (a from n next : ℕ) (drops more : List Op) → IsLeastTaken (λ i. is_free_at T (a, i)) from (Some n) → is_stale T a n ≡ true
    → more ≡ drops ++ drop_of n ∷ [] → next ≡ n → AreAll T a drops from → AreAll T a more (next + 1)
drops_more T a from n next drops more least stale longer here all =
    ap (λ ds. ds ++ map drop_of (stale_from T a (next + 1))) longer
    ∙ ap (λ m. (drops ++ drop_of n ∷ []) ++ map drop_of (stale_from T a (m + 1))) here
    ∙ append_assoc drops (drop_of n ∷ []) (map drop_of (stale_from T a (n + 1)))
    ∙ ap (λ ns. drops ++ map drop_of ns) (sym (next_is T a from n true least stale))
    ∙ all

pub drops_on : (T : Tree) (a from n next : ℕ) (drops more : List Op) → IsLeastTaken (λ i. is_free_at T (a, i)) from (Some n) → is_stale T a n ≡ false
    → more ≡ drops → next ≡ n → AreAll T a drops from → AreAll T a more (next + 1)
drops_on T a from n next drops more least stale same here all =
    ap (λ ds. ds ++ map drop_of (stale_from T a (next + 1))) same
    ∙ ap (λ m. drops ++ map drop_of (stale_from T a (m + 1))) here
    ∙ ap (λ ns. drops ++ map drop_of ns) (sym (next_is T a from n false least stale))
    ∙ all

pub drops_end : (T : Tree) (a from : ℕ) (drops : List Op) → 1 ≤ from → IsLeastTaken (λ i. is_free_at T (a, i)) from None → AreAll T a drops from → tidy_draft T a ≡ drops
drops_end T a from drops one least all =
    sym all ∙ ap (λ ns. drops ++ map drop_of ns) (stale_none T a from one least) ∙ append-nil drops
