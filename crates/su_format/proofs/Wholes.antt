-- Bytes that are one value.
use Rattle.std.proofs.Common.{◌≡◌, ◌≢◌, ℕ, ◌⊎◌, inl, inr, List, [], ◌++◌, refl, sym, ◌∙◌, ap, subst}
use Rattle.std.specs.Prelude.{Result, Ok, Err}
use Rattle.su_bytes.specs.declared.refusals.Refusal.{Refusal}
use Rattle.su_bytes.specs.declared.refusals.Refusal.TheVariants.{Malformed, NoMemory}
use Rattle.su_format.specs.Format.{Format, whole, IsLawful, IsFormatOf}
use Rattle.su_format.specs.Reading.{Reading, start, Took, Takes, Decodes}

pub whole_lawful : {A : Type 0} (f : Format A) → IsLawful f → IsLawful (whole f)
unfolding whole
whole_lawful f law =
    let apart : (bytes : List ℕ) (a : _) (rest behind : List ℕ) → (whole f).Begins bytes a rest → (whole f).Fails bytes behind → ⊥ = λ bytes a rest behind x. elim [
      | inl fails ↦ law.apart bytes a [] behind x.0 fails
      | inr y ↦ y.2 (sym (law.told bytes a y.0 [] behind x.0 y.1).1)
    ] in
    let place : (bytes rest behind : List ℕ) → (whole f).Fails bytes rest → (whole f).Fails bytes behind → rest ≡ behind = λ bytes rest behind. elim [
      | inl x ↦ elim [ inl y ↦ law.one_place bytes rest behind x y | inr y ↦ absurd (law.apart bytes y.0 behind rest y.1 x) ]
      | inr x ↦ elim [ inl y ↦ absurd (law.apart bytes x.0 rest behind x.1 y) | inr y ↦ (law.told bytes x.0 y.0 rest behind x.1 y.1).1 ]
    ] in
    record {
      told = λ bytes a b rest behind x y. ((law.told bytes a b [] [] x.0 y.0).0, x.1 ∙ sym y.1);
      apart = apart;
      one_place = place;
    }

module _ {A : Type 0} (f : Format A) where
  -- bytes that were read to their end
  pub decoded : (bytes : List ℕ) (a : A) (end : Reading) → Took f (start bytes) a end → end.left ≡ [] → Decodes f bytes (Ok a)
  decoded bytes a end took none = subst (f.Begins bytes a) none took.spelled

  -- bytes of which some are left over
  pub left_over : (bytes : List ℕ) (a : A) (end : Reading) (e : Refusal) → Took f (start bytes) a end → e ≡ Malformed end.place → end.left ≢ [] → Decodes f bytes (Err e)
  unfolding whole
  left_over bytes a end e took is some = inr (end.place, is, record { behind = end.left; fails = inr (a, took.spelled, some); place_is = took.place })

  -- bytes that begin with no spelling
  pub undecoded : (bytes : List ℕ) (new : Reading) (e : Refusal) → Takes f (start bytes) (Err e) new → Decodes f bytes (Err e)
  unfolding whole
  undecoded bytes new e (inl none) = inl none
  undecoded bytes new e (inr (place, is, at)) = inr (place, is, record { behind = at.behind; fails = inl at.fails; place_is = at.place_is })

  -- what spells a value is read as it
  pub read_as_spelled : IsLawful f → (bytes : List ℕ) (a : A) (r : Result A Refusal) → f.Begins bytes a [] → Decodes f bytes r → (r ≡ Ok a) ⊎ (r ≡ Err NoMemory)
  unfolding whole
  read_as_spelled law bytes a (Ok b) is read = inl (ap Ok (law.told bytes b a [] [] read is).0)
  read_as_spelled law bytes a (Err e) is (inl none) = inr (ap Err none)
  read_as_spelled law bytes a (Err e) is (inr (place, _, at)) = absurd ((whole_lawful f law).apart bytes a [] at.behind (is, refl) at.fails)

-- no spelling begins another
pub spelling_told : {A : Type 0} {f : Format A} {Is : A → Type 0} {spelling : A → List ℕ} → IsLawful f → IsFormatOf f Is spelling → (a b : A) (x y : List ℕ) → Is a → Is b → spelling a ++ x ≡ spelling b ++ y → (a ≡ b) × (x ≡ y)
spelling_told {spelling} law of a b x y is_a is_b e = law.told (spelling a ++ x) a b x y (of.begins (spelling a ++ x) a x is_a refl) (of.begins (spelling a ++ x) b y is_b e)
