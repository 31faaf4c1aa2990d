-- A scratch that gives back what was written has what was noted, from call to call.
use Rattle.std.proofs.Common.{◌≡◌, ℕ, List, ◌++◌, Option, Some, None, true, false, sym, ap, ◌∙◌, subst}
use Rattle.std.specs.Prelude.{is_some, Result, Ok, Err, IfOk, OnOk}
use Rattle.su_scratch.specs.declared.notes.Place.{Place}
use Rattle.su_scratch.specs.Places.{Noted, place_under, bucket_at, AreHeld, IsSound}
use Rattle.su_scratch.proofs.BucketLemmas.{finds_still}

module _ {F : Type 0} (keeps : F → Type 0) (written : F → List ℕ) where
  -- nothing was written
  pub sound_on : (s t : F) (p : Noted) → (keeps s → keeps t) → (keeps s → written t ≡ written s) → IsSound keeps written s p → IsSound keeps written t p
  sound_on s t p on same sound = (on sound.0, subst (λ w. AreHeld w p) (sym (same sound.0)) sound.1)

  -- something was
  pub sound_grown : (s t : F) (p : Noted) (bytes : List ℕ) → (keeps s → keeps t) → (keeps s → written t ≡ written s ++ bytes) → IsSound keeps written s p → IsSound keeps written t p
  sound_grown s t p bytes on grows sound =
      (on sound.0, λ i. finds_still i (written s) (written t) (bucket_at p.buckets i) (place_under p.noted) (bytes, grows sound.0) (sound.1 i))

  -- and something was noted
  pub sound_noted : (s t : F) (p q : Noted) → (keeps s → keeps t) → (keeps s → AreHeld (written s) p → AreHeld (written t) q) → IsSound keeps written s p → IsSound keeps written t q
  sound_noted s t p q on held sound = (on sound.0, held sound.0 sound.1)

-- what follows from a fact of what came
pub more_ok : {T E : Type 0} (r : Result T E) (P Q : T → Type 0) → ((x : T) → P x → Q x) → IfOk r P → IfOk r Q
more_ok (Ok x) P Q on p = on x p
more_ok (Err e) P Q on p = tt

pub on_ok : {T E : Type 0} (r : Result T E) (P Q : Type 0) → (P → Q) → OnOk r P → OnOk r Q
on_ok (Ok x) P Q on p = on p
on_ok (Err e) P Q on p = tt

-- a place that was noted isn't found to be none
pub not_none : (o : Option Place) → None ≡ o → is_some o ≡ true → ⊥
not_none o none some = let no : false ≡ true = ap is_some none ∙ some in cc

pub is_there : (o : Option Place) (p : Place) → Some p ≡ o → is_some o ≡ true
is_there o p is = sym (ap is_some is)
