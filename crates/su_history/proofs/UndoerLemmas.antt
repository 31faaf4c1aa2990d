-- Who undid which entry, found from the last entry on.
use Rattle.std.proofs.Common.{◌≡◌, ◌∙◌, ℕ, ◌+◌, ◌-◌, ◌<◌, ◌≤◌, Bool, true, false, cond, List, ◌∷◌, ◌++◌, append-nil, length, drop, take, subst, set, get_or, replicate, nat_eq, Option, Some, None, refl, sym, ap, arith, ◌⊎◌, inl, inr}
use Rattle.std.proofs.lemmas.Bool.{cases_eq, eq-eqb, eqb-false, eqb-true, ne_eqb}
use Rattle.std.proofs.lemmas.List.{drop_more, drop_all, take_all, get_or-set_same, get_or-set_other, length-set, get_or-replicate, length-replicate}
use Rattle.su_op.specs.declared.operations.Change.{Change}
use Rattle.su_op.specs.declared.operations.Change.TheVariants.{Do, Undo, Rekey}
use Rattle.su_desk.specs.declared.entries.Entry.{Entry}
use Rattle.su_desk.specs.History.{undoer_from, undoes}
use Rattle.su_desk.specs.KeptEntry.{undone}
use Rattle.su_history.specs.Line.{AreUndoers}

-- of each entry the first one that undoes it, of those from an index on
pub record AreUndoersFrom (h : List Entry) (from : ℕ) (undoers : List (Option ℕ)) : Type 0 where
  pub as_many : length undoers ≡ length h
  pub each : (i : ℕ) → i < length h → get_or undoers i None ≡ undoer_from (from + 1) (drop from h) (i + 1)

-- of none there are none
pub none_undone : (h : List Entry) (undoers : List (Option ℕ)) → undoers ≡ replicate (length h) None → AreUndoersFrom h (length h) undoers
none_undone h undoers is = record {
  as_many = ap length is ∙ length-replicate (length h) None;
  each = λ i lt. ap (λ os. get_or os i None) is ∙ get_or-replicate (length h) i None None lt
      ∙ ap (λ es. undoer_from (length h + 1) es (i + 1)) (sym (drop_all (length h) h (omega arith)));
}

-- what a change notes
abbrev pub noted : List (Option ℕ) → Change → ℕ → List (Option ℕ)
noted undoers (Undo n) by = cond (nat_eq n 0) undoers (set undoers (n - 1) (Some by))
noted undoers _ by = undoers

length_noted : (undoers : List (Option ℕ)) (c : Change) (by : ℕ) → length (noted undoers c by) ≡ length undoers
length_noted undoers (Do ops) by = refl
length_noted undoers (Rekey k) by = refl
length_noted undoers (Undo n) by = go (nat_eq n 0)
  where
    go : (b : Bool) → length (cond b undoers (set undoers (n - 1) (Some by))) ≡ length undoers
    go true = refl
    go false = length-set undoers (n - 1) (Some by)

noted_at : (undoers : List (Option ℕ)) (c : Change) (by i : ℕ) → i < length undoers → get_or (noted undoers c by) i None ≡ cond (undoes (i + 1) c) (Some by) (get_or undoers i None)
noted_at undoers (Do ops) by i lt = refl
noted_at undoers (Rekey k) by i lt = refl
noted_at undoers (Undo n) by i lt = go (nat_eq n 0) refl
  where
    index : nat_eq n 0 ≡ false → n ≡ n - 1 + 1
    index some = let none : n ≡ 0 → ⊥ = eqb-false n 0 some in grind (arith, none)

    other : nat_eq n 0 ≡ false → (n - 1 ≡ i) ⊎ (n - 1 ≡ i → ⊥) → get_or (set undoers (n - 1) (Some by)) i None ≡ cond (nat_eq (i + 1) n) (Some by) (get_or undoers i None)
    other some (inl e) =
        let at = index some in
        ap (λ k. get_or (set undoers k (Some by)) i None) e
        ∙ get_or-set_same undoers i (Some by) None lt
        ∙ ap (λ b. cond b (Some by) (get_or undoers i None)) (sym (eq-eqb (i + 1) n (omega (arith, at, e))))
    other some (inr off) =
        let at = index some in
        get_or-set_other undoers (n - 1) i (Some by) None (λ e. off (sym e))
        ∙ ap (λ b. cond b (Some by) (get_or undoers i None)) (sym (ne_eqb (i + 1) n (λ e. off (omega (arith, at, e)))))

    go : (b : Bool) → nat_eq n 0 ≡ b → get_or (cond b undoers (set undoers (n - 1) (Some by))) i None ≡ cond (nat_eq (i + 1) n) (Some by) (get_or undoers i None)
    go true none =
        let none_is : n ≡ 0 = eqb-true n 0 none in
        ap (λ b. cond b (Some by) (get_or undoers i None)) (sym (ne_eqb (i + 1) n (λ e. omega (arith, none_is, e))))
    go false some = other some (cases_eq (n - 1) i)

-- with one entry more in front
pub one_more : (h : List Entry) (from : ℕ) (e : Entry) (undoers after : List (Option ℕ)) → from < length h → e ≡ get_or h from e → AreUndoersFrom h (from + 1) undoers → after ≡ noted undoers e.change (from + 1) → AreUndoersFrom h from after
one_more h from e undoers after lt is are noted_is = record {
  as_many = ap length noted_is ∙ length_noted undoers e.change (from + 1) ∙ are.as_many;
  each = λ i low. (
      let many = are.as_many in
      ap (λ os. get_or os i None) noted_is
      ∙ noted_at undoers e.change (from + 1) i (omega (arith, low, many))
      ∙ ap (cond (undoes (i + 1) e.change) (Some (from + 1))) (are.each i low)
      ∙ sym (ap (λ es. undoer_from (from + 1) es (i + 1)) (drop_more h from e lt) ∙ ap (λ x. undoer_from (from + 1) (x ∷ drop (from + 1) h) (i + 1)) (sym is))
      );
}

-- what an undo notes
undo_notes : (undoers : List (Option ℕ)) (c : Change) (n by : ℕ) → Some n ≡ undone c → cond (nat_eq n 0) undoers (set undoers (n - 1) (Some by)) ≡ noted undoers c by
undo_notes undoers (Do ops) n by some = absurd cc
undo_notes undoers (Undo m) n by some = let same : n ≡ m = cc in ap (λ (k : ℕ). cond (nat_eq k 0) undoers (set undoers (k - 1) (Some by))) same
undo_notes undoers (Rekey k) n by some = absurd cc

-- an entry that is no undo notes nothing
pub none_noted : (h : List Entry) (i : ℕ) (e : Entry) (undoers : List (Option ℕ)) → 0 < i → i ≤ length h → e ≡ get_or h (i - 1) e → AreUndoersFrom h i undoers → None ≡ undone e.change
    → AreUndoersFrom h (i - 1) undoers
none_noted h i e undoers some within is are none =
    let next : i ≡ i - 1 + 1 = omega (arith, some) in
    one_more h (i - 1) e undoers undoers (omega (arith, some, within)) is (subst (λ (k : ℕ). AreUndoersFrom h k undoers) next are) (notes e.change none)
  where
    notes : (c : Change) → None ≡ undone c → undoers ≡ noted undoers c (i - 1 + 1)
    notes (Do ops) none = refl
    notes (Undo n) none = absurd cc
    notes (Rekey k) none = refl

-- an undo is at an index, and is noted
pub undo_noted : (h : List Entry) (i : ℕ) (e : Entry) (n : ℕ) (undoers before after : List (Option ℕ)) (len : ℕ) → 0 < i → i ≤ length h
    → e ≡ get_or h (i - 1) e → AreUndoersFrom h i undoers → Some n ≡ undone e.change → before ≡ undoers
    → after ≡ cond (nat_eq n 0) before (set before (n - 1) (Some (i - 1 + 1))) → len ≡ length undoers
    → AreUndoersFrom h (i - 1) (take len (after ++ drop (length after) undoers))
undo_noted h i e n undoers before after len some within is are undo same noted_is long =
    let next : i ≡ i - 1 + 1 = omega (arith, some) in
    let all : after ≡ noted undoers e.change (i - 1 + 1)
    = noted_is ∙ ap (λ (us : List (Option ℕ)). cond (nat_eq n 0) us (set us (n - 1) (Some (i - 1 + 1)))) same
    ∙ undo_notes undoers e.change n (i - 1 + 1) undo in
    let as_long : length after ≡ length undoers = ap length all ∙ length_noted undoers e.change (i - 1 + 1) in
    let whole : take len (after ++ drop (length after) undoers) ≡ after
    = ap (λ (us : List (Option ℕ)). take len (after ++ us)) (drop_all (length after) undoers (omega (arith, as_long)))
    ∙ ap (take len) (append-nil after) ∙ take_all len after (omega (arith, as_long, long)) in
    subst (AreUndoersFrom h (i - 1)) (sym whole)
    (one_more h (i - 1) e undoers after (omega (arith, some, within)) is (subst (λ (k : ℕ). AreUndoersFrom h k undoers) next are) all)

-- all of them
pub all_undone : (h : List Entry) (from : ℕ) (undoers : List (Option ℕ)) → from ≡ 0 → AreUndoersFrom h from undoers → AreUndoers h undoers
all_undone h from undoers none are = record {
  as_many = are.as_many;
  each = λ i low. are.each i low ∙ ap (λ k. undoer_from (k + 1) (drop k h) (i + 1)) none;
}
