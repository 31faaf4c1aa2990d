-- Which operations are live, and what an undo that is accepted names.
use Rattle.std.proofs.Common.{◌≡◌, ℕ, ◌+◌, ◌-◌, ◌||◌, Bool, true, false, not, cond, zero, suc, List, [], ◌∷◌, ◌++◌, nat_eq, Option, Some, None, refl, sym, ap, ◌∙◌, arith, slice_get}
use Rattle.std.specs.List.{filter, list_any}
use Rattle.std.proofs.lemmas.List.Folds.{list_any-append}
use Rattle.std.proofs.lemmas.Bool.{or_left, or_right, not-true}
use Rattle.std.specs.Option.{option_or}
use Rattle.su_bytes.specs.Membership.{Membership, has_user}
use Rattle.su_bytes.specs.declared.refusals.Refusal.{Refusal}
use Rattle.su_bytes.specs.declared.refusals.Refusal.TheVariants.{NoUser, NoOperation, NotOperation, AlreadyUndone, Blocked}
use Rattle.su_op.specs.Batch.{Action}
use Rattle.su_op.specs.declared.operations.Change.{Change}
use Rattle.su_op.specs.declared.operations.Change.TheVariants.{Do, Undo, Rekey}
use Rattle.su_desk.specs.declared.entries.Entry.{Entry}
use Rattle.su_desk.specs.History.{NumberedAction, entry_doing, action_of, operation_of, operations_from, undoes, is_undone, live, entry_at, undoer_from, undoer}
use Rattle.su_desk.specs.Blocker.{blocker}
use Rattle.su_desk.specs.Answer.{blocked_refusal, undone_refusal, change_refusal, entry_refusal, live_refusal, author_refusal, undo_refusal}

-- ---- what a live number has

pub none_undoes : (k : ℕ) (h : List Entry) (n : ℕ) → is_undone h n ≡ false → undoer_from k h n ≡ None
none_undoes k [] n e = refl
none_undoes k (x ∷ h) n e = go (undoes n x.change) e (none_undoes (k + 1) h n)
  where
    go : (b : Bool) → (b || is_undone h n) ≡ false → (is_undone h n ≡ false → undoer_from (k + 1) h n ≡ None) → cond b (Some k) (undoer_from (k + 1) h n) ≡ None
    go true e ih = absurd (let bad : true ≡ false = e in cc)
    go false e ih = ih e

not_undone : (k : ℕ) (h : List Entry) (n : ℕ) → undoer_from k h n ≡ None → is_undone h n ≡ false
not_undone k [] n e = refl
not_undone k (x ∷ h) n e = go (undoes n x.change) e (not_undone (k + 1) h n)
  where
    go : (b : Bool) → cond b (Some k) (undoer_from (k + 1) h n) ≡ None → (undoer_from (k + 1) h n ≡ None → is_undone h n ≡ false) → (b || is_undone h n) ≡ false
    go true e ih = absurd (let bad : Some k ≡ None = e in cc)
    go false e ih = ih e

-- what a live number has
pub record IsLive (h : List Entry) (n : ℕ) : Type 0 where
  pub action : Action
  pub entry : entry_at h n ≡ Some (entry_doing action)
  pub free : undoer h n ≡ None

pub is_live : (h : List Entry) (n : ℕ) → live_refusal h n ≡ None → IsLive h n
is_live h n e = go (entry_at h n) refl e
  where
    free : (o : Option ℕ) → undone_refusal n o ≡ None → o ≡ None
    free None e = refl
    free (Some by) e = absurd (let bad : Some (AlreadyUndone n by) ≡ None = e in cc)

    change : (x : Entry) (c : Change) → entry_at h n ≡ Some (record x { change = c }) → change_refusal h n c ≡ None → IsLive h n
    change x (Undo m) is e = absurd (let bad : Some (NotOperation n) ≡ None = e in cc)
    change x (Rekey k) is e = absurd (let bad : Some (NotOperation n) ≡ None = e in cc)
    change x (Do op) is e = record { action = action_of x op; entry = is; free = free (undoer h n) e }

    go : (o : Option Entry) → entry_at h n ≡ o → entry_refusal h n o ≡ None → IsLive h n
    go None is e = absurd (let bad : Some (NoOperation n) ≡ None = e in cc)
    go (Some x) is e = change x x.change is e

-- and is among the operations
operation_there : (m i : ℕ) (h : List Entry) (x : Action) → slice_get h i ≡ Some (entry_doing x) → list_any (λ (t : NumberedAction). nat_eq t.number (m + i)) (operations_from m h) ≡ true
operation_there m i [] x e = absurd (let bad : None ≡ Some (entry_doing x) = e in cc)
operation_there m zero (f ∷ h) x e =
    let same : f ≡ entry_doing x = cc in
    ap (λ (y : Entry). list_any (λ (t : NumberedAction). nat_eq t.number (m + zero)) (operation_of m y ++ operations_from (m + 1) h)) same
    ∙ or_left (nat_eq m (m + zero)) (list_any (λ (t : NumberedAction). nat_eq t.number (m + zero)) (operations_from (m + 1) h)) (grind arith)
operation_there m (suc i) (f ∷ h) x e =
    let index : m + 1 + i ≡ m + suc i = omega arith in
    let later : list_any (λ (t : NumberedAction). nat_eq t.number (m + suc i)) (operations_from (m + 1) h) ≡ true
    = ap (λ n. list_any (λ (t : NumberedAction). nat_eq t.number n) (operations_from (m + 1) h)) (sym index) ∙ operation_there (m + 1) i h x e in
    list_any-append (λ (t : NumberedAction). nat_eq t.number (m + suc i)) (operation_of m f) (operations_from (m + 1) h)
    ∙ or_right (list_any (λ (t : NumberedAction). nat_eq t.number (m + suc i)) (operation_of m f)) (list_any (λ (t : NumberedAction). nat_eq t.number (m + suc i)) (operations_from (m + 1) h)) later

filter_keeps : (p q : NumberedAction → Bool) (ts : List NumberedAction) → ((t : NumberedAction) → p t ≡ true → q t ≡ true) → list_any p ts ≡ true → list_any p (filter q ts) ≡ true
filter_keeps p q [] all e = e
filter_keeps p q (t ∷ ts) all e = go (p t) refl (q t) refl e (filter_keeps p q ts all)
  where
    go : (a : Bool) → p t ≡ a → (b : Bool) → q t ≡ b → (a || list_any p ts) ≡ true → (list_any p ts ≡ true → list_any p (filter q ts) ≡ true) → list_any p (cond b (t ∷ filter q ts) (filter q ts)) ≡ true
    go true is true is' e ih = or_left (p t) (list_any p (filter q ts)) is
    go true is false is' e ih = absurd (let bad : true ≡ false = sym (all t is) ∙ is' in cc)
    go false is true is' e ih = or_right (p t) (list_any p (filter q ts)) (ih e)
    go false is false is' e ih = ih e

-- a live number is that of a live operation
pub live_number : (h : List Entry) (n : ℕ) → live_refusal h n ≡ None → list_any (λ (t : NumberedAction). nat_eq t.number n) (live h) ≡ true
live_number h n e =
    let l = is_live h n e in
    filter_keeps (λ (t : NumberedAction). nat_eq t.number n) (λ (t : NumberedAction). not (is_undone h t.number)) (operations_from 1 h) (stands l.free) (there (nat_eq n 0) refl l.entry)
  where
    number : (m : ℕ) → nat_eq m n ≡ true → m ≡ n
    number m e = grind arith

    stands : undoer h n ≡ None → (t : NumberedAction) → nat_eq t.number n ≡ true → not (is_undone h t.number) ≡ true
    stands free t is = ap (λ m. not (is_undone h m)) (number t.number is) ∙ ap not (not_undone 1 h n free)

    there : {x : Action} → (b : Bool) → nat_eq n 0 ≡ b → cond b None (slice_get h (n - 1)) ≡ Some (entry_doing x) → list_any (λ (t : NumberedAction). nat_eq t.number n) (operations_from 1 h) ≡ true
    there {x} true is e = absurd (let bad : None ≡ Some (entry_doing x) = e in cc)
    there {x} false is e = let index : 1 + (n - 1) ≡ n = grind arith in ap (λ m. list_any (λ (t : NumberedAction). nat_eq t.number m) (operations_from 1 h)) (sym index) ∙ operation_there 1 (n - 1) h x e

-- with those before and after it
pub record LiveOperation (ts : List NumberedAction) (n : ℕ) : Type 0 where
  pub before : List NumberedAction
  pub operation : NumberedAction
  pub after : List NumberedAction
  pub whole : ts ≡ before ++ operation ∷ after
  pub number : operation.number ≡ n

pub live_operation : (ts : List NumberedAction) (n : ℕ) → list_any (λ (t : NumberedAction). nat_eq t.number n) ts ≡ true → LiveOperation ts n
live_operation [] n e = absurd (let bad : false ≡ true = e in cc)
live_operation (t ∷ ts) n e = go (nat_eq t.number n) refl e (live_operation ts n)
  where
    go : (b : Bool) → nat_eq t.number n ≡ b → (b || list_any (λ (u : NumberedAction). nat_eq u.number n) ts) ≡ true → (list_any (λ (u : NumberedAction). nat_eq u.number n) ts ≡ true → LiveOperation ts n) → LiveOperation (t ∷ ts) n
    go true is e rest = record { before = []; operation = t; after = ts; whole = refl; number = grind arith }
    go false is e rest = let r = rest e in record { before = t ∷ r.before; operation = r.operation; after = r.after; whole = ap (λ us. t ∷ us) r.whole; number = r.number }

-- ---- live operations have live numbers

passed : (p : NumberedAction → Bool) (xs ys zs : List NumberedAction) (x : NumberedAction) → filter p xs ≡ ys ++ x ∷ zs → p x ≡ true
passed p [] [] zs x e = absurd (let bad : [] ≡ x ∷ zs = e in cc)
passed p [] (y ∷ ys) zs x e = absurd (let bad : [] ≡ y ∷ (ys ++ x ∷ zs) = e in cc)
passed p (z ∷ xs) ys zs x e = go (p z) refl (λ ys. passed p xs ys zs x) ys e
  where
    here : p z ≡ true → (ys : List NumberedAction) → z ∷ filter p xs ≡ ys ++ x ∷ zs → ((ys : List NumberedAction) → filter p xs ≡ ys ++ x ∷ zs → p x ≡ true) → p x ≡ true
    here is [] e ih = let same : z ≡ x = cc in ap p (sym same) ∙ is
    here is (y ∷ ys) e ih = ih ys (let rest : filter p xs ≡ ys ++ x ∷ zs = cc in rest)

    go : (b : Bool) → p z ≡ b → ((ys : List NumberedAction) → filter p xs ≡ ys ++ x ∷ zs → p x ≡ true) → (ys : List NumberedAction) → cond b (z ∷ filter p xs) (filter p xs) ≡ ys ++ x ∷ zs → p x ≡ true
    go true is ih ys e = here is ys e ih
    go false is ih ys e = ih ys e

-- no undo names a live operation
pub not_named : (h : List Entry) (before after : List NumberedAction) (t : NumberedAction) → live h ≡ before ++ t ∷ after → undoer h t.number ≡ None
not_named h before after t is = none_undoes 1 h t.number (not-true (is_undone h t.number) (passed (λ u. not (is_undone h u.number)) (operations_from 1 h) before after t is))

pub live_alone : (h : List Entry) (before after : List NumberedAction) (t : NumberedAction) → live h ≡ before ++ t ∷ after → entry_at h t.number ≡ Some (entry_doing t.action) → live_refusal h t.number ≡ None
live_alone h before after t is entry = ap (entry_refusal h t.number) entry ∙ ap (undone_refusal t.number) (not_named h before after t is)

-- ---- what an undo that is accepted names

pub record Undoable (ro : Membership) (h : List Entry) (n : ℕ) : Type 0 where
  pub stands : live_refusal h n ≡ None
  pub free : blocker ro h n ≡ None

pub undo_accepted : (ro : Membership) (h : List Entry) (a n : ℕ) → undo_refusal ro h a n ≡ None → Undoable ro h n
undo_accepted ro h a n e = user (has_user ro a) e
  where
    free : (o : Option ℕ) → blocked_refusal o ≡ None → o ≡ None
    free None e = refl
    free (Some m) e = absurd (let bad : Some (Blocked m) ≡ None = e in cc)

    mine : live_refusal h n ≡ None → (o : Option Refusal) → option_or o (blocked_refusal (blocker ro h n)) ≡ None → Undoable ro h n
    mine stands (Some r) e = absurd (let bad : Some r ≡ None = e in cc)
    mine stands None e = record { stands = stands; free = free (blocker ro h n) e }

    here : (o : Option Refusal) → live_refusal h n ≡ o → option_or o (option_or (author_refusal a (entry_at h n)) (blocked_refusal (blocker ro h n))) ≡ None → Undoable ro h n
    here (Some r) is e = absurd (let bad : Some r ≡ None = e in cc)
    here None is e = mine is (author_refusal a (entry_at h n)) e

    user : (b : Bool) → cond b (option_or (live_refusal h n) (option_or (author_refusal a (entry_at h n)) (blocked_refusal (blocker ro h n)))) (Some (NoUser a)) ≡ None → Undoable ro h n
    user false e = absurd (let bad : Some (NoUser a) ≡ None = e in cc)
    user true e = here (live_refusal h n) refl e

-- the undo of a live operation by its author is refused by its blocker alone
pub by_blocker_alone : (ro : Membership) (h : List Entry) (a n : ℕ) → has_user ro a ≡ true → live_refusal h n ≡ None → author_refusal a (entry_at h n) ≡ None → undo_refusal ro h a n ≡ blocked_refusal (blocker ro h n)
by_blocker_alone ro h a n known stands own =
    ap (λ b. cond b (option_or (live_refusal h n) (option_or (author_refusal a (entry_at h n)) (blocked_refusal (blocker ro h n)))) (Some (NoUser a))) known
    ∙ ap (λ o. option_or o (option_or (author_refusal a (entry_at h n)) (blocked_refusal (blocker ro h n)))) stands
    ∙ ap (λ o. option_or o (blocked_refusal (blocker ro h n))) own
