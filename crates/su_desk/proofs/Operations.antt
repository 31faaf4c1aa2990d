-- The operations of a history: their numbers rise, and what one more entry makes of the live ones.
use Rattle.std.proofs.Common.{◌≡◌, ℕ, ◌+◌, ◌<◌, ◌≤◌, ◌||◌, ◌&&◌, Bool, true, false, not, cond, List, [], ◌∷◌, ◌++◌, length, map, nat_eq, zero, suc, add-one, subst, refl, sym, ap, ◌∙◌, arith, append_assoc, append-nil}
use Rattle.std.specs.List.{filter, slice_index}
use Rattle.std.specs.List.Sorted.{IsStrictlyIncreasing}
use Rattle.std.proofs.lemmas.List.Elements.{filter-append}
use Rattle.std.proofs.lemmas.List.Folds.{list_any-append}
use Rattle.std.proofs.lemmas.Bool.{eq-eqb}
use Rattle.std.proofs.Math.Bool.{or-false}
use Rattle.su_bytes.specs.declared.formats.Format.{Format}
use Rattle.su_op.specs.Batch.{Action}
use Rattle.su_op.specs.declared.operations.Change.{Change}
use Rattle.su_op.specs.declared.operations.Change.TheVariants.{Do, Undo, Rekey}
use Rattle.su_desk.specs.declared.entries.Entry.{Entry}
use Rattle.su_desk.specs.History.{NumberedAction, entry_doing, undo_by, rekey_by, operation_by_change, operation_of, operations_from, undoes, is_undone, live, live_numbers}

-- ---- lists

and_not : (a b : Bool) → not (a || b) ≡ (not a && not b)
and_not true b = refl
and_not false b = refl

pub filter_same : {A : Type 0} (p q : A → Bool) (xs : List A) → ((x : A) → p x ≡ q x) → filter p xs ≡ filter q xs
filter_same p q [] e = refl
filter_same p q (x ∷ xs) e = go (p x) (q x) (e x) (filter_same p q xs e)
  where
    go : (a b : Bool) → a ≡ b → filter p xs ≡ filter q xs → cond a (x ∷ filter p xs) (filter p xs) ≡ cond b (x ∷ filter q xs) (filter q xs)
    go a b s ih i = cond (s i) (x ∷ ih i) (ih i)

pub filter-and : {A : Type 0} (p q : A → Bool) (xs : List A) → filter (λ x. p x && q x) xs ≡ filter q (filter p xs)
filter-and p q [] = refl
filter-and p q (x ∷ xs) = go (p x) (filter-and p q xs)
  where
    go : (a : Bool) → filter (λ x. p x && q x) xs ≡ filter q (filter p xs) → cond (a && q x) (x ∷ filter (λ x. p x && q x) xs) (filter (λ x. p x && q x) xs) ≡ filter q (cond a (x ∷ filter p xs) (filter p xs))
    go true ih = ap (λ ys. cond (q x) (x ∷ ys) ys) ih
    go false ih = ih

-- ---- numbers rise

abbrev pub Rising : ℕ → List NumberedAction → Type 0
Rising low [] = Unit {0}
Rising low (t ∷ ts) = (low < t.number) × Rising t.number ts

rising_from_lower : (low high : ℕ) (ts : List NumberedAction) → low ≤ high → Rising high ts → Rising low ts
rising_from_lower low high [] le r = tt
rising_from_lower low high (t ∷ ts) le (l, r) = (omega arith, r)

rising_operations : (low n : ℕ) (h : List Entry) → low < n → Rising low (operations_from n h)
rising_operations low n [] l = tt
rising_operations low n (e ∷ es) l = go (rising_operations n (n + 1) es (omega arith)) (rising_operations low (n + 1) es (omega arith)) e.change
  where
    go : Rising n (operations_from (n + 1) es) → Rising low (operations_from (n + 1) es) → (c : Change) → Rising low (operation_by_change n e c ++ operations_from (n + 1) es)
    go above rest (Do op) = (l, above)
    go above rest (Undo m) = rest
    go above rest (Rekey k) = rest

rising_filter : (p : NumberedAction → Bool) (low : ℕ) (ts : List NumberedAction) → Rising low ts → Rising low (filter p ts)
rising_filter p low [] r = tt
rising_filter p low (t ∷ ts) (l, r) = go (p t) (rising_filter p t.number ts r)
  where
    go : (b : Bool) → Rising t.number (filter p ts) → Rising low (cond b (t ∷ filter p ts) (filter p ts))
    go true rest = (l, rest)
    go false rest = rising_from_lower low t.number (filter p ts) (omega arith) rest

pub rising_live : (h : List Entry) → Rising 0 (live h)
rising_live h = rising_filter (λ t. not (is_undone h t.number)) 0 (operations_from 1 h) (rising_operations 0 1 h (omega arith))

apart : (a b : ℕ) → a < b → nat_eq a b ≡ false
apart a b l = grind arith

below_middle : (low : ℕ) (ts us : List NumberedAction) (t : NumberedAction) → Rising low (ts ++ t ∷ us) → low < t.number
below_middle low [] us t (l, r) = l
below_middle low (x ∷ ts) us t (l, r) = let m = below_middle x.number ts us t r in omega arith

pub rising_after : (low : ℕ) (ts us : List NumberedAction) (t : NumberedAction) → Rising low (ts ++ t ∷ us) → Rising t.number us
rising_after low [] us t (l, r) = r
rising_after low (x ∷ ts) us t (l, r) = rising_after x.number ts us t r

-- later operations have other numbers
none_out : (n low : ℕ) (ts : List NumberedAction) → n ≤ low → Rising low ts → filter (λ x. not (nat_eq x.number n)) ts ≡ ts
none_out n low [] le r = refl
none_out n low (t ∷ ts) le (l, r) =
    let other : nat_eq t.number n ≡ false = grind arith in
    ap (λ b. cond (not b) (t ∷ filter (λ x. not (nat_eq x.number n)) ts) (filter (λ x. not (nat_eq x.number n)) ts)) other
    ∙ ap (λ ys. t ∷ ys) (none_out n t.number ts (omega arith) r)

-- one of rising operations is taken out by its number
pub one_taken_out : (low : ℕ) (ts us : List NumberedAction) (t : NumberedAction) → Rising low (ts ++ t ∷ us) → filter (λ x. not (nat_eq x.number t.number)) (ts ++ t ∷ us) ≡ ts ++ us
one_taken_out low [] us t (l, r) =
    ap (λ b. cond (not b) (t ∷ filter (λ x. not (nat_eq x.number t.number)) us) (filter (λ x. not (nat_eq x.number t.number)) us)) (eq-eqb t.number t.number refl)
    ∙ none_out t.number t.number us (omega arith) r
one_taken_out low (x ∷ ts) us t (l, r) =
    ap (λ b. cond (not b) (x ∷ filter (λ y. not (nat_eq y.number t.number)) (ts ++ t ∷ us)) (filter (λ y. not (nat_eq y.number t.number)) (ts ++ t ∷ us))) (apart x.number t.number (below_middle x.number ts us t r))
    ∙ ap (λ ys. x ∷ ys) (one_taken_out x.number ts us t r)

-- ---- one more entry

pub operations_from-append : (n : ℕ) (h : List Entry) (e : Entry) → operations_from n (h ++ e ∷ []) ≡ operations_from n h ++ operation_of (n + length h) e
operations_from-append n [] e = go (n + 0) (omega arith)
  where
    go : (m : ℕ) → m ≡ n → operation_of n e ++ [] ≡ operation_of m e
    go m is = append-nil (operation_of n e) ∙ ap (λ k. operation_of k e) (sym is)
operations_from-append n (x ∷ h) e =
    ap (λ ts. operation_of n x ++ ts) (operations_from-append (n + 1) h e)
    ∙ sym (append_assoc (operation_of n x) (operations_from (n + 1) h) (operation_of (n + 1 + length h) e))
    ∙ ap (λ k. (operation_of n x ++ operations_from (n + 1) h) ++ operation_of k e) (omega arith)

pub is_undone-append : (h : List Entry) (e : Entry) (n : ℕ) → is_undone (h ++ e ∷ []) n ≡ (is_undone h n || undoes n e.change)
is_undone-append h e n = list_any-append (λ x. undoes n x.change) h (e ∷ []) ∙ ap (λ b. is_undone h n || b) (or-false (undoes n e.change))

-- an operation that is added is live, if no undo named it before it came
pub live-do : (h : List Entry) (x : Action) → is_undone h (length h + 1) ≡ false
    → live (h ++ entry_doing x ∷ []) ≡ live h ++ record { number = length h + 1; action = x } ∷ []
live-do h x new =
    filter_same (λ t. not (is_undone (h ++ entry_doing x ∷ []) t.number)) (λ t. not (is_undone h t.number)) _ (λ t. ap not (is_undone-append h _ t.number ∙ or-false (is_undone h t.number)))
    ∙ ap (filter (λ (t : NumberedAction). not (is_undone h t.number))) (operations_from-append 1 h _)
    ∙ filter-append (λ t. not (is_undone h t.number)) (operations_from 1 h) _
    ∙ ap (λ ts. live h ++ ts) (go (1 + length h) (omega arith))
  where
    go : (m : ℕ) → m ≡ length h + 1 → filter (λ (t : NumberedAction). not (is_undone h t.number)) (record { number = m; action = x } ∷ []) ≡ record { number = length h + 1; action = x } ∷ []
    go m is = ap (λ k. filter (λ (t : NumberedAction). not (is_undone h t.number)) (record { number = k; action = x } ∷ [])) is
        ∙ ap (λ b. cond (not b) (record { number = length h + 1; action = x } ∷ []) []) new

-- an undo takes the operation with that number out of the live ones
pub live-undo : (h : List Entry) (a : ℕ) (f : Format) (n : ℕ) → live (h ++ undo_by a f n ∷ []) ≡ filter (λ t. not (nat_eq t.number n)) (live h)
live-undo h a f n =
    filter_same (λ t. not (is_undone (h ++ undo_by a f n ∷ []) t.number)) (λ t. not (is_undone h t.number) && not (nat_eq t.number n)) _ (λ t. ap not (is_undone-append h _ t.number) ∙ and_not (is_undone h t.number) (nat_eq t.number n))
    ∙ filter-and (λ t. not (is_undone h t.number)) (λ t. not (nat_eq t.number n)) (operations_from 1 (h ++ undo_by a f n ∷ []))
    ∙ ap (λ ts. filter (λ (t : NumberedAction). not (nat_eq t.number n)) (filter (λ (t : NumberedAction). not (is_undone h t.number)) ts)) (operations_from-append 1 h _ ∙ append-nil (operations_from 1 h))

-- a rekey leaves them as they were
pub live-rekey : (h : List Entry) (a : ℕ) (f : Format) (k : List ℕ) → live (h ++ rekey_by a f k ∷ []) ≡ live h
live-rekey h a f k =
    filter_same (λ t. not (is_undone (h ++ rekey_by a f k ∷ []) t.number)) (λ t. not (is_undone h t.number)) _ (λ t. ap not (is_undone-append h _ t.number ∙ or-false (is_undone h t.number)))
    ∙ ap (filter (λ (t : NumberedAction). not (is_undone h t.number))) (operations_from-append 1 h _ ∙ append-nil (operations_from 1 h))

-- ---- the numbers of live operations ascend

abbrev numbers : List NumberedAction → List ℕ
numbers ts = map (λ t. t.number) ts

rises_at : (low : ℕ) (ts : List NumberedAction) (k : ℕ) → Rising low ts → suc k < length (numbers ts) → slice_index (numbers ts) k < slice_index (numbers ts) (suc k)
rises_at low [] k r within = absurd (omega arith)
rises_at low (t ∷ []) k r within = absurd (omega arith)
rises_at low (t ∷ u ∷ ts) zero (l, (next, r)) within = next
rises_at low (t ∷ u ∷ ts) (suc k) (l, r) within = rises_at t.number (u ∷ ts) k r (omega arith)

pub live_ascend : (h : List Entry) → IsStrictlyIncreasing (live_numbers h)
live_ascend h k within = subst (λ j. slice_index (live_numbers h) k < slice_index (live_numbers h) j) (sym (add-one k)) (rises_at 0 (live h) k (rising_live h) (omega arith))
