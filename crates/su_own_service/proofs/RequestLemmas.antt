-- A message is one request, or none for one reason.
use Rattle.std.proofs.Common.{◌≡◌, ◌∙◌, ℕ, inl, inr, List, [], ◌∷◌, length, sym, ap, subst, arith}
use Rattle.std.specs.Prelude.{Ok, Err}
use Rattle.su_bytes.specs.declared.refusals.Refusal.{Refusal}
use Rattle.su_bytes.specs.declared.refusals.Refusal.TheVariants.{Malformed, NoMemory}
use Rattle.su_format.specs.Format.{Format, IsLawful}
use Rattle.su_format.proofs.Public.{whole_lawful}
use Rattle.su_message.specs.declared.requests.Request.{Request}
use Rattle.su_message.specs.Tagged.{fields_of, ReadsTagged}
use Rattle.su_message.specs.Request.{request_kinds}
use Rattle.su_message.proofs.Public.{nothing_begins, no_whole_fails, whole_begins, request_fields_lawful, request_read}
use Rattle.su_session.specs.Answer.{IsMessageOf, AsksNothing}

-- ---- messages of a kind's number and its fields

module _ {A : Type 0} (kinds : List (ℕ × Format A)) (law : (n : ℕ) → IsLawful (fields_of kinds n)) where
  one_value : (m : List ℕ) (a b : A) → ReadsTagged kinds m (Ok a) → ReadsTagged kinds m (Ok b) → a ≡ b
  one_value [] a b x y = absurd x
  one_value (n ∷ rest) a b x y = ((law n).told rest a b [] [] x y).0

  value_or_reason : (m : List ℕ) (a : A) (e : Refusal) → (e ≡ NoMemory → ⊥) → ReadsTagged kinds m (Ok a) → ReadsTagged kinds m (Err e) → ⊥
  value_or_reason [] a e some x y = x
  value_or_reason (n ∷ rest) a e some x (inl none) = some none
  value_or_reason (n ∷ rest) a e some x (inr (inl unknown)) = nothing_begins kinds n unknown.1 rest a [] x
  value_or_reason (n ∷ rest) a e some x (inr (inr (place, _, at))) =
      (whole_lawful (fields_of kinds n) (law n)).apart rest a [] at.behind (whole_begins kinds n rest a x) at.fails

  one_cause : (m : List ℕ) (e f : Refusal) → (e ≡ NoMemory → ⊥) → (f ≡ NoMemory → ⊥) → ReadsTagged kinds m (Err e) → ReadsTagged kinds m (Err f) → e ≡ f
  one_cause [] e f some_e some_f (inl none) y = absurd (some_e none)
  one_cause [] e f some_e some_f (inr x) (inl none) = absurd (some_f none)
  one_cause [] e f some_e some_f (inr x) (inr y) = x ∙ sym y
  one_cause (n ∷ rest) e f some_e some_f (inl none) y = absurd (some_e none)
  one_cause (n ∷ rest) e f some_e some_f (inr x) (inl none) = absurd (some_f none)
  one_cause (n ∷ rest) e f some_e some_f (inr (inl x)) (inr (inl y)) = x.0 ∙ sym y.0
  one_cause (n ∷ rest) e f some_e some_f (inr (inl x)) (inr (inr (_, _, at))) = absurd (no_whole_fails kinds n x.1 rest at.behind at.fails)
  one_cause (n ∷ rest) e f some_e some_f (inr (inr (_, _, at))) (inr (inl y)) = absurd (no_whole_fails kinds n y.1 rest at.behind at.fails)
  one_cause (n ∷ rest) e f some_e some_f (inr (inr (place, is, at))) (inr (inr (place', is', at'))) =
      let behind = (whole_lawful (fields_of kinds n) (law n)).one_place rest at.behind at'.behind at.fails at'.fails in
      let there : place ≡ place' = omega (arith, at.place_is, at'.place_is, ap length behind) in
      is ∙ ap Malformed there ∙ sym is'

-- ---- requests

read : (m : List ℕ) (q : Request) → IsMessageOf m q → ReadsTagged request_kinds m (Ok q)
read m q (is, spelled) = subst (λ l. ReadsTagged request_kinds l (Ok q)) (sym spelled) (request_read q is)

pub one_request : (m : List ℕ) (q p : Request) → IsMessageOf m q → IsMessageOf m p → q ≡ p
one_request m q p x y = one_value request_kinds request_fields_lawful m q p (read m q x) (read m p y)

pub request_or_reason : (m : List ℕ) (q : Request) (e : Refusal) → IsMessageOf m q → AsksNothing m e → ⊥
request_or_reason m q e x y = value_or_reason request_kinds request_fields_lawful m q e y.0 (read m q x) y.1

pub one_reason : (m : List ℕ) (e f : Refusal) → AsksNothing m e → AsksNothing m f → e ≡ f
one_reason m e f x y = one_cause request_kinds request_fields_lawful m e f x.0 y.0 x.1 y.1
