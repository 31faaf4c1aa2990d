-- What holds of formats: parts in order, each with one spelling that begins no other.
use Rattle.std.proofs.Common.{◌≡◌, ℕ, ◌+◌, ◌<◌, ◌≤◌, inl, inr, ◌-◌, List, ◌++◌, length, take, drop, refl, sym, ◌∙◌, ap, subst, arith}
use Rattle.std.specs.Prelude.{Result, Ok, Err, IsErrAnd}
use Rattle.std.proofs.lemmas.Result.{err_from_is_err_and}
use Rattle.std.proofs.lemmas.List.{length-append, length-take-le, length-drop, take-append-drop}
use Rattle.su_bytes.specs.declared.refusals.Refusal.{Refusal}
use Rattle.su_bytes.specs.declared.refusals.Refusal.TheVariants.{Malformed}
use Rattle.su_format.specs.Format.{Format, part, making, ◌>>=◌, IsLawful}
use Rattle.su_format.specs.Part.{bytes_part}
use Rattle.su_format.specs.Reading.{Reading, IsPlaceOf, Took, Refuses, Takes}

-- ---- one part

module _ {A : Type 0} (Is : A → Type 0) (spelling : A → List ℕ) where
  -- a value was taken, where its spelling was there
  pub taken : (old new : Reading) (a : A) → Is a → old.left ≡ spelling a ++ new.left → IsPlaceOf old new.place new.left → Took (part Is spelling) old a new
  unfolding part
  taken old new a is spelled place = record { spelled = (is, spelled); place = place }

  -- no spelling is there
  pub missing : (old new : Reading) (e : Refusal) → e ≡ Malformed old.place → ((a : A) (behind : List ℕ) → Is a → old.left ≡ spelling a ++ behind → ⊥) → Takes (part Is spelling) old (Err e) new
  unfolding part
  missing old new e is none = inr (old.place, is, record { behind = old.left; fails = (refl, none); place_is = refl })

  -- a part whose spellings are longer than what is left
  pub too_short : (n : ℕ) (old new : Reading) (e : Refusal) → e ≡ Malformed old.place → ((a : A) → Is a → n ≤ length (spelling a)) → length old.left < n → Takes (part Is spelling) old (Err e) new
  too_short n old new e is long short = missing old new e is (λ a behind is_a s.
      let l : length old.left ≡ length (spelling a) + length behind = ap length s ∙ length-append (spelling a) behind in
      omega (arith, long a is_a))

  -- one spelling, which begins no other
  pub part_lawful : ((a b : A) (rest behind : List ℕ) → Is a → Is b → spelling a ++ rest ≡ spelling b ++ behind → (a ≡ b) × (rest ≡ behind)) → IsLawful (part Is spelling)
  unfolding part
  part_lawful told = record {
    told = λ bytes a b rest behind x y. told a b rest behind x.0 y.0 (sym x.1 ∙ y.1);
    apart = λ bytes a rest behind x y. y.1 a rest x.0 x.1;
    one_place = λ bytes rest behind x y. x.0 ∙ sym y.0;
  }

-- ---- parts in order

module _ {A B : Type 0} (f : Format A) (g : A → Format B) where
  -- what comes of the second format comes of both, where the first was taken
  pub goes_on : (old middle new : Reading) (a : A) (r : Result B Refusal) → Took f old a middle → Takes (g a) middle r new → Takes (f >>= g) old r new
  unfolding ◌>>=◌
  goes_on old middle new a (Ok b) first second = record {
    spelled = (a, middle.left, first.spelled, second.spelled);
    place = omega (arith, first.place, second.place);
  }
  goes_on old middle new a (Err e) first (inl none) = inl none
  goes_on old middle new a (Err e) first (inr (place, is, at)) = inr (
    place,
    is,
    record {
      behind = at.behind;
      fails = inr (a, middle.left, first.spelled, at.fails);
      place_is = omega (arith, first.place, at.place_is);
    },
  )

  -- a refusal of the first is one of both
  pub stops : (old middle new : Reading) (e : Refusal) → Takes f old (Err e) middle → Takes (f >>= g) old (Err e) new
  unfolding ◌>>=◌
  stops old middle new e (inl none) = inl none
  stops old middle new e (inr (place, is, at)) = inr (place, is, record { behind = at.behind; fails = inl at.fails; place_is = at.place_is })

  -- the same of what was taken, and of what is refused
  pub then_took : {old middle new : Reading} {a : A} {b : B} → Took f old a middle → Took (g a) middle b new → Took (f >>= g) old b new
  then_took first second = goes_on _ _ _ _ (Ok _) first second

  pub then_refused : {old middle : Reading} {a : A} {e : Refusal} → Took f old a middle → Refuses (g a) middle e → Refuses (f >>= g) old e
  then_refused {middle} {e} first second = goes_on _ middle middle _ (Err e) first second

  pub first_refused : {old : Reading} {e : Refusal} → Refuses f old e → Refuses (f >>= g) old e
  first_refused {old} {e} first = stops old old old e first

  -- what begins the bytes of both, seen from where another first value ends
  moved : (a b : A) (l m : List ℕ) → (P : A → List ℕ → Type 0) → a ≡ b → l ≡ m → P b m → P a l
  moved a b l m P e i p = subst (λ x. P x l) (sym e) (subst (P b) (sym i) p)

  -- formats in order are lawful
  pub in_order : IsLawful f → ((a : A) → IsLawful (g a)) → IsLawful (f >>= g)
  unfolding ◌>>=◌
  in_order first second =
      let apart : (bytes : List ℕ) (b : B) (rest behind : List ℕ) → (f >>= g).Begins bytes b rest → (f >>= g).Fails bytes behind → ⊥ = λ bytes b rest behind x. elim [
        | inl fails ↦ first.apart bytes x.0 x.1 behind x.2 fails
        | inr y ↦ (
            let same = first.told bytes x.0 y.0 x.1 y.1 x.2 y.2 in
            (second x.0).apart x.1 b rest behind x.3 (moved x.0 y.0 x.1 y.1 (λ a l. (g a).Fails l behind) same.0 same.1 y.3)
            )
      ] in
      let place : (bytes rest behind : List ℕ) → (f >>= g).Fails bytes rest → (f >>= g).Fails bytes behind → rest ≡ behind = λ bytes rest behind. elim [
        | inl x ↦ elim [
          | inl y ↦ first.one_place bytes rest behind x y
          | inr y ↦ absurd (first.apart bytes y.0 y.1 rest y.2 x)
        ]
        | inr x ↦ elim [
          | inl y ↦ absurd (first.apart bytes x.0 x.1 behind x.2 y)
          | inr y ↦ (
              let same = first.told bytes x.0 y.0 x.1 y.1 x.2 y.2 in
              (second x.0).one_place x.1 rest behind x.3 (moved x.0 y.0 x.1 y.1 (λ a l. (g a).Fails l behind) same.0 same.1 y.3)
              )
        ]
      ] in
      record {
        told = λ bytes b c rest behind x y.
            let same = first.told bytes x.0 y.0 x.1 y.1 x.2 y.2 in
            (second x.0).told x.1 b c rest behind x.3 (moved x.0 y.0 x.1 y.1 (λ a l. (g a).Begins l c behind) same.0 same.1 y.3);
        apart = apart;
        one_place = place;
      }

-- what `?` hands on
pub handed_on_to : {T E : Type 0} (P : Result T E → Type 0) (r : Result T E) (e : E) → IsErrAnd r (λ x. x ≡ e) → P (Err e) → P r
handed_on_to P r e is holds = let p = err_from_is_err_and r is in rw (p.1, p.2) holds

-- a refusal that it hands on
pub handed_on : {A : Type 0} {f : Format A} {old : Reading} {e : Refusal} (new : Reading) (r : Result A Refusal) → IsErrAnd r (λ x. x ≡ e) → Refuses f old e → Takes f old r new
handed_on {f} {old} {e} new r is refused = handed_on_to (λ x. Takes f old x new) r e is refused

-- the value is made of what was taken
pub made : {A : Type 0} (old : Reading) (a : A) → Takes (making a) old (Ok a) old
unfolding making
made old a = record { spelled = (refl, refl); place = refl }

pub making_lawful : {A : Type 0} (a : A) → IsLawful (making a)
unfolding making
making_lawful a = record {
  told = λ bytes b c rest behind x y. (x.0 ∙ sym y.0, x.1 ∙ sym y.1);
  apart = λ bytes b rest behind x y. y;
  one_place = λ bytes rest behind x y. absurd x;
}

-- ---- parts by other parts

module _ {A B : Type 0} (IsA : A → Type 0) (of_a : A → List ℕ) (IsB : B → Type 0) (of_b : B → List ℕ) where
  -- what was taken as the one is the other
  pub taken_as : (old new : Reading) (a : A) (b : B) → Took (part IsA of_a) old a new → IsB b → of_b b ≡ of_a a → Took (part IsB of_b) old b new
  unfolding part
  taken_as old new a b took is same = record { spelled = (is, took.spelled.1 ∙ ap (λ s. s ++ new.left) (sym same)); place = took.place }

  -- each of the second is spelled as one of the first
  pub missing_too : (f : B → A) → ((b : B) → IsB b → IsA (f b) × (of_a (f b) ≡ of_b b)) → (old new next : Reading) (first e : Refusal) → first ≡ Malformed old.place → e ≡ Malformed old.place → Takes (part IsA of_a) old (Err first) new → Takes (part IsB of_b) old (Err e) next
  unfolding part
  missing_too f narrow old new next first e was is (inl none) = absurd (cc)
  missing_too f narrow old new next first e was is (inr (place, _, at)) =
      inr (old.place, is, record { behind = old.left; fails = (refl, λ b behind is_b s. at.fails.1 (f b) behind (narrow b is_b).0 (s ∙ ap (λ l. l ++ behind) (sym (narrow b is_b).1))); place_is = refl })

  -- a value was taken that is none of the second
  pub another : IsLawful (part IsA of_a) → (f : B → A) → ((b : B) → IsB b → IsA (f b) × (of_a (f b) ≡ of_b b)) → (old middle new : Reading) (a : A) (e : Refusal) → e ≡ Malformed old.place → Took (part IsA of_a) old a middle → ((b : B) → IsB b → f b ≡ a → ⊥) → Takes (part IsB of_b) old (Err e) new
  unfolding part
  another law f narrow old middle new a e is took none =
      inr (old.place, is, record { behind = old.left; fails = (refl, λ b behind is_b s. none b is_b (law.told old.left (f b) a behind middle.left ((narrow b is_b).0, s ∙ ap (λ l. l ++ behind) (sym (narrow b is_b).1)) took.spelled).0); place_is = refl })

-- ---- bytes

-- the first of what is left were taken
pub first_taken : (n : ℕ) (old : Reading) (place : ℕ) (all bytes rest : List ℕ) → record { place = place; left = all } ≡ old → n ≤ length all → bytes ≡ take n all → rest ≡ drop n all → Took (bytes_part n) old bytes (record { place = place + n; left = rest })
unfolding bytes_part part
first_taken n old place all bytes rest view inside front back = record {
  spelled = (ap length front ∙ length-take-le n all inside, ap (λ r. r.left) (sym view) ∙ sym (take-append-drop n all) ∙ (λ i. sym front i ++ sym back i));
  place = let l : length rest ≡ length all - n = ap length back ∙ length-drop n all in
      let m : old.place + length old.left ≡ place + length all = ap (λ r. r.place + length r.left) (sym view) in
      omega arith;
}

-- bytes that were taken are the spelling of a value
pub read_from : {A : Type 0} (Is : A → Type 0) (spelling : A → List ℕ) (n : ℕ) (old new : Reading) (bytes : List ℕ) (a : A) → Took (bytes_part n) old bytes new → Is a → spelling a ≡ bytes → Took (part Is spelling) old a new
unfolding bytes_part
read_from Is spelling n old new bytes a took is same = taken_as (λ bs. length bs ≡ n) (λ bs. bs) Is spelling old new bytes a took is same
