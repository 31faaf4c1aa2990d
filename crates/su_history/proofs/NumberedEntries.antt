-- The entries of a history with their numbers, by index.
use Rattle.std.proofs.Common.{◌≡◌, ◌∙◌, ℕ, zero, suc, ◌+◌, ◌-◌, ◌<◌, ◌&&◌, Bool, true, false, List, [], ◌∷◌, length, map, take, drop, get_or, nat_eq, slice_range, Option, None, refl, sym, ap, arith}
use Rattle.std.proofs.Math.Bool.{beq}
use Rattle.std.specs.Option.{is_some}
use Rattle.std.proofs.lemmas.List.{get_or-take, get_or-drop, take-map, drop-map}
use Rattle.std.proofs.lemmas.Bool.{true≢false}
use Rattle.su_desk.specs.declared.entries.Entry.{Entry}
use Rattle.su_desk.specs.History.{undoer}
use Rattle.su_history.specs.Line.{AreUndoers, NumberedEntry, goes_on, is_same_file, numbered, numbered_from}

-- the entry x of history h with that number
abbrev pub with_number : List Entry → Entry → ℕ → NumberedEntry
with_number h x n = record { number = n; entry = x; undoer = undoer h n }

numbered_at : (h : List Entry) (n : ℕ) (es : List Entry) (i : ℕ) (x : Entry) (d : NumberedEntry) → i < length es → x ≡ get_or es i x → get_or (numbered_from h n es) i d ≡ with_number h x (n + i)
numbered_at h n [] i x d lt is = absurd (omega (arith, lt))
numbered_at h n (e ∷ es) zero x d lt is =
    let none : n ≡ n + zero = omega arith in
    ap (λ k. with_number h e k) none ∙ ap (λ y. with_number h y (n + zero)) (sym is)
numbered_at h n (e ∷ es) (suc i) x d lt is =
    let index : n + 1 + i ≡ n + suc i = omega arith in
    numbered_at h (n + 1) es i x d (omega (arith, lt)) is ∙ ap (λ k. with_number h x k) index

-- by its index, from 0
pub entry_of_index : (h : List Entry) (i : ℕ) (x : Entry) (d : NumberedEntry) → i < length h → x ≡ get_or h i x → get_or (numbered h) i d ≡ with_number h x (i + 1)
entry_of_index h i x d lt is =
    let index : 1 + i ≡ i + 1 = omega arith in
    numbered_at h 1 h i x d lt is ∙ ap (λ k. with_number h x k) index

length_from : (h : List Entry) (n : ℕ) (es : List Entry) → length (numbered_from h n es) ≡ length es
length_from h n [] = refl
length_from h n (e ∷ es) = ap suc (length_from h (n + 1) es)

pub length_numbered : (h : List Entry) → length (numbered h) ≡ length h
length_numbered h = length_from h 1 h

entries_from : (h : List Entry) (n : ℕ) (es : List Entry) → map (λ (e : NumberedEntry). e.entry) (numbered_from h n es) ≡ es
entries_from h n [] = refl
entries_from h n (e ∷ es) = ap (λ xs. e ∷ xs) (entries_from h (n + 1) es)

-- the same entries without their numbers
pub entries_between : (h : List Entry) (a b : ℕ) → map (λ (e : NumberedEntry). e.entry) (slice_range (numbered h) a b) ≡ slice_range h a b
entries_between h a b =
    sym (take-map (λ (e : NumberedEntry). e.entry) (b - a) (drop a (numbered h)))
    ∙ ap (take (b - a)) (sym (drop-map (λ (e : NumberedEntry). e.entry) a (numbered h)))
    ∙ ap (λ xs. slice_range xs a b) (entries_from h 1 h)

-- an entry of a part
pub at_between : {X : Type 0} (xs : List X) (a b i : ℕ) (d : X) → i < b - a → get_or (slice_range xs a b) i d ≡ get_or xs (a + i) d
at_between xs a b i d lt = get_or-take (b - a) (drop a xs) i d lt ∙ get_or-drop a xs i d

-- whether an entry goes on with the one before it, by what is read of both
pub goes_on_read : (h : List Entry) (undoers : List (Option ℕ)) (i : ℕ) (x y : Entry) (d : NumberedEntry) → AreUndoers h undoers → 0 < i → i < length h → x ≡ get_or h (i - 1) x → y ≡ get_or h i y
    → goes_on (get_or (numbered h) (i - 1) d) (get_or (numbered h) i d)
    ≡ (nat_eq x.author y.author && is_same_file x.change y.change && beq (is_some (get_or undoers (i - 1) None)) (is_some (get_or undoers i None)))
goes_on_read h undoers i x y d are some lt x_is y_is =
    ap (λ e. goes_on e (get_or (numbered h) i d)) (entry_of_index h (i - 1) x d (omega (arith, lt)) x_is)
    ∙ ap (goes_on (with_number h x (i - 1 + 1))) (entry_of_index h i y d lt y_is)
    ∙ ap (λ q. nat_eq x.author y.author && is_same_file x.change y.change && beq (is_some q) (is_some (undoer h (i + 1)))) (sym (are.each (i - 1) (omega (arith, lt))))
    ∙ ap (λ q. nat_eq x.author y.author && is_same_file x.change y.change && beq (is_some (get_or undoers (i - 1) None)) (is_some q)) (sym (are.each i lt))

pub last_counts : (a b q : Bool) → a ≡ true → b ≡ true → (a && b && q) ≡ q
last_counts true true q a_is b_is = refl
last_counts true false q a_is b_is = absurd (true≢false (sym b_is))
last_counts false b q a_is b_is = absurd (true≢false (sym a_is))

pub second_fails : (a b q : Bool) → b ≡ false → (a && b && q) ≡ false
second_fails true true q is = absurd (true≢false is)
second_fails true false q is = refl
second_fails false b q is = refl

pub first_fails : (a b q : Bool) → a ≡ false → (a && b && q) ≡ false
first_fails true b q is = absurd (true≢false is)
first_fails false b q is = refl
