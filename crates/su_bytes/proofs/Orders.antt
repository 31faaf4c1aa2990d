-- What passes an order isn't refused by it, and orders one behind the other.
use Rattle.std.proofs.Common.{◌≡◌, List, [], ◌∷◌, ◌++◌, ◌∙◌, sym, inl, inr}
use Rattle.su_bytes.specs.Order.{Line, Passes, RefusedBy}

pub never_both : {E : Type 0} (lines : List (Line E)) (e : E) → Passes lines → RefusedBy lines e → ⊥
never_both [] e all refused = refused
never_both (line ∷ lines) e (here, later) (inl (is, fails)) = fails here
never_both (line ∷ lines) e (here, later) (inr (holds, refused)) = never_both lines e later refused

-- ---- one refusal

-- each line is refused in one way
abbrev pub EachOnce : {E : Type 0} → List (Line E) → Type 0
EachOnce [] = Unit {0}
EachOnce {E} (line ∷ lines) = ((x y : E) → line.refusal x → line.refusal y → x ≡ y) × EachOnce lines

-- a line of a condition that has one refusal is
pub once : {E : Type 0} {e : E} (x y : E) → x ≡ e → y ≡ e → x ≡ y
once x y p q = p ∙ sym q

pub one_refusal : {E : Type 0} (lines : List (Line E)) → EachOnce lines → (x y : E) → RefusedBy lines x → RefusedBy lines y → x ≡ y
one_refusal [] each x y p q = absurd p
one_refusal (line ∷ lines) (here, each) x y (inl (p, _)) (inl (q, _)) = here x y p q
one_refusal (line ∷ lines) (here, each) x y (inl (_, fails)) (inr (holds, _)) = absurd (fails holds)
one_refusal (line ∷ lines) (here, each) x y (inr (holds, _)) (inl (_, fails)) = absurd (fails holds)
one_refusal (line ∷ lines) (here, each) x y (inr (_, p)) (inr (_, q)) = one_refusal lines each x y p q

-- ---- what all refusals of an order have

abbrev pub EachSays : {E : Type 0} → (E → Type 0) → List (Line E) → Type 0
EachSays P [] = Unit {0}
EachSays {E} P (line ∷ lines) = ((e : E) → line.refusal e → P e) × EachSays P lines

pub refused_says : {E : Type 0} (P : E → Type 0) (lines : List (Line E)) → EachSays P lines → (e : E) → RefusedBy lines e → P e
refused_says P [] each e refused = absurd refused
refused_says P (line ∷ lines) (here, each) e (inl (is, _)) = here e is
refused_says P (line ∷ lines) (here, each) e (inr (_, refused)) = refused_says P lines each e refused

-- ---- one order behind another

module _ {E : Type 0} where
  pub passes_both : (xs ys : List (Line E)) → Passes xs → Passes ys → Passes (xs ++ ys)
  passes_both [] ys p q = q
  passes_both (x ∷ xs) ys (here, p) q = (here, passes_both xs ys p q)

  pub passes_first : (xs ys : List (Line E)) → Passes (xs ++ ys) → Passes xs
  passes_first [] ys p = tt
  passes_first (x ∷ xs) ys (here, p) = (here, passes_first xs ys p)

  pub passes_later : (xs ys : List (Line E)) → Passes (xs ++ ys) → Passes ys
  passes_later [] ys p = p
  passes_later (x ∷ xs) ys (here, p) = passes_later xs ys p

  pub refused_first : (xs ys : List (Line E)) (e : E) → RefusedBy xs e → RefusedBy (xs ++ ys) e
  refused_first [] ys e p = absurd p
  refused_first (x ∷ xs) ys e (inl p) = inl p
  refused_first (x ∷ xs) ys e (inr (holds, p)) = inr (holds, refused_first xs ys e p)

  pub refused_later : (xs ys : List (Line E)) (e : E) → Passes xs → RefusedBy ys e → RefusedBy (xs ++ ys) e
  refused_later [] ys e p q = q
  refused_later (x ∷ xs) ys e (here, p) q = inr (here, refused_later xs ys e p q)
