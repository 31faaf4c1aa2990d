-- Messages: the number of a kind and its fields.
use Rattle.std.proofs.Common.{◌≡◌, ◌≢◌, ◌∙◌, ℕ, ◌⊎◌, inl, inr, Bool, true, false, cond, nat_eq, List, [], ◌∷◌, ◌++◌, length, append-nil, refl, sym, ap, subst, arith}
use Rattle.std.specs.Prelude.{Result, Ok, Err}
use Rattle.std.proofs.lemmas.Bool.{eqb-true}
use Rattle.su_bytes.specs.declared.refusals.Refusal.{Refusal}
use Rattle.su_bytes.specs.declared.refusals.Refusal.TheVariants.{Malformed, NoMemory, UnknownTag}
use Rattle.su_format.specs.Format.{Format, part, whole, IsLawful}
use Rattle.su_format.specs.Part.{bytes_part}
use Rattle.su_format.specs.Reading.{Reading, start, Took, Takes}
use Rattle.su_format.proofs.Public.{whole_lawful}
use Rattle.su_message.specs.Tagged.{no_fields, fields_of, HasNoKind, behind_tag, ReadsTagged}

-- one byte was taken
pub record TagTaken (message first : List ℕ) (new : Reading) : Type 0 where
  pub number : ℕ
  pub first_is : first ≡ number ∷ []
  pub message_is : message ≡ number ∷ new.left
  pub new_is : new ≡ behind_tag new.left

one_byte : (first : List ℕ) → length first ≡ 1 → (n : ℕ) × (first ≡ n ∷ [])
one_byte [] e = absurd (omega arith)
one_byte (n ∷ []) e = (n, refl)
one_byte (n ∷ m ∷ more) e = absurd (omega arith)

pub tag_taken : (message first : List ℕ) (new : Reading) → Took (bytes_part 1) (start message) first new → TagTaken message first new
unfolding bytes_part part
tag_taken message first new took =
    let (n, is) = one_byte first took.spelled.0 in
    let whole_is : message ≡ n ∷ new.left = took.spelled.1 ∙ ap (λ l. l ++ new.left) is in
    let place_is : new.place ≡ 1 = omega (arith, took.place, ap length whole_is) in
    record {
      number = n;
      first_is = is;
      message_is = whole_is;
      new_is = ap (λ p. record { place = p; left = new.left }) place_is;
    }

-- ---- kinds

-- this holds of each kind
abbrev pub EachKind : {A : Type 0} → (ℕ → Format A → Type 0) → List (ℕ × Format A) → Type 0
EachKind P [] = Unit {0}
EachKind P (kind ∷ others) = P kind.0 kind.1 × EachKind P others

-- then it holds of the fields of each number, if it holds of none
pub of_each : {A : Type 0} (P : ℕ → Format A → Type 0) → ((n : ℕ) → P n no_fields) → (kinds : List (ℕ × Format A)) → EachKind P kinds → (n : ℕ) → P n (fields_of kinds n)
of_each P none [] each n = none n
of_each P none (kind ∷ others) each n = go (nat_eq n kind.0) refl (of_each P none others each.1 n)
  where
    go : (same : Bool) → nat_eq n kind.0 ≡ same → P n (fields_of others n) → P n (cond same kind.1 (fields_of others n))
    go true is other = subst (λ k. P k kind.1) (sym (eqb-true _ _ is)) each.0
    go false is other = other

no_fields_lawful : {A : Type 0} → IsLawful (no_fields {A = A})
unfolding no_fields
no_fields_lawful = record {
  told = λ bytes a b rest behind x y. absurd x;
  apart = λ bytes a rest behind x y. x;
  one_place = λ bytes rest behind x y. absurd x;
}

pub all_lawful : {A : Type 0} (kinds : List (ℕ × Format A)) → EachKind (λ n f. IsLawful f) kinds → (n : ℕ) → IsLawful (fields_of kinds n)
all_lawful kinds each n = of_each (λ n f. IsLawful f) (λ n. no_fields_lawful) kinds each n

-- a number of no kind has no fields
nothing_fails : {A : Type 0} (kinds : List (ℕ × Format A)) (n : ℕ) → HasNoKind kinds n → (bytes rest : List ℕ) → (fields_of kinds n).Fails bytes rest → ⊥
unfolding no_fields
nothing_fails [] n none bytes rest fails = fails
nothing_fails (kind ∷ others) n none bytes rest fails = go (nat_eq n kind.0) refl (nothing_fails others n none.1 bytes rest) fails
  where
    go : (same : Bool) → nat_eq n kind.0 ≡ same → ((fields_of others n).Fails bytes rest → ⊥) → (cond same kind.1 (fields_of others n)).Fails bytes rest → ⊥
    go true is other fails = none.0 (eqb-true _ _ is)
    go false is other fails = other fails

pub nothing_begins : {A : Type 0} (kinds : List (ℕ × Format A)) (n : ℕ) → HasNoKind kinds n → (bytes : List ℕ) (a : A) (rest : List ℕ) → (fields_of kinds n).Begins bytes a rest → ⊥
unfolding no_fields
nothing_begins [] n none bytes a rest begins = begins
nothing_begins (kind ∷ others) n none bytes a rest begins = go (nat_eq n kind.0) refl (nothing_begins others n none.1 bytes a rest) begins
  where
    go : (same : Bool) → nat_eq n kind.0 ≡ same → ((fields_of others n).Begins bytes a rest → ⊥) → (cond same kind.1 (fields_of others n)).Begins bytes a rest → ⊥
    go true is other begins = none.0 (eqb-true _ _ is)
    go false is other begins = other begins

pub no_whole_fails : {A : Type 0} (kinds : List (ℕ × Format A)) (n : ℕ) → HasNoKind kinds n → (bytes rest : List ℕ) → (whole (fields_of kinds n)).Fails bytes rest → ⊥
unfolding whole
no_whole_fails kinds n none bytes rest (inl fails) = nothing_fails kinds n none bytes rest fails
no_whole_fails kinds n none bytes rest (inr (a, begins, _)) = nothing_begins kinds n none bytes a rest begins

-- ---- what is read

module _ {A : Type 0} (kinds : List (ℕ × Format A)) where
  -- there is no first byte
  pub no_tag : (message : List ℕ) (new : Reading) (e : Refusal) → Takes (bytes_part 1) (start message) (Err e) new → e ≡ Malformed 0 → ReadsTagged kinds message (Err e)
  unfolding bytes_part part
  no_tag [] new e t is = inr is
  no_tag (n ∷ rest) new e (inl none) is = inl none
  no_tag (n ∷ rest) new e (inr (place, _, at)) is = absurd (at.fails.1 (n ∷ []) rest refl refl)

  pub whole_begins : (n : ℕ) (rest : List ℕ) (a : A) → (fields_of kinds n).Begins rest a [] → (whole (fields_of kinds n)).Begins rest a []
  unfolding whole
  whole_begins n rest a is = (is, refl)

  -- the fields were read to their end
  pub fields_read : (message rest : List ℕ) (n : ℕ) (a : A) (end : Reading) → message ≡ n ∷ rest → Took (fields_of kinds n) (behind_tag rest) a end → end.left ≡ [] → ReadsTagged kinds message (Ok a)
  fields_read message rest n a end is took none =
      subst (λ m. ReadsTagged kinds m (Ok a)) (sym is) (subst ((fields_of kinds n).Begins rest a) none took.spelled)

  -- the fields aren't there
  pub fields_refused : (message rest : List ℕ) (n : ℕ) (e : Refusal) (new : Reading) → message ≡ n ∷ rest → Takes (fields_of kinds n) (behind_tag rest) (Err e) new → ReadsTagged kinds message (Err e)
  unfolding whole
  fields_refused message rest n e new is (inl none) = subst (λ m. ReadsTagged kinds m (Err e)) (sym is) (inl none)
  fields_refused message rest n e new is (inr (place, at_place, at)) =
      subst (λ m. ReadsTagged kinds m (Err e)) (sym is) (inr (inr (place, at_place, record { behind = at.behind; fails = inl at.fails; place_is = at.place_is })))

  -- some bytes are left over
  pub more_left : (message rest : List ℕ) (n : ℕ) (a : A) (e : Refusal) (end : Reading) → message ≡ n ∷ rest → Took (fields_of kinds n) (behind_tag rest) a end → end.left ≢ [] → e ≡ Malformed end.place → ReadsTagged kinds message (Err e)
  unfolding whole
  more_left message rest n a e end is took some at_place =
      subst (λ m. ReadsTagged kinds m (Err e)) (sym is) (inr (inr (end.place, at_place, record { behind = end.left; fails = inr (a, took.spelled, some); place_is = took.place })))

  -- no kind has the number
  pub unknown : (message rest : List ℕ) (n : ℕ) → message ≡ n ∷ rest → HasNoKind kinds n → ReadsTagged kinds message (Err UnknownTag)
  unknown message rest n is none = subst (λ m. ReadsTagged kinds m (Err UnknownTag)) (sym is) (inr (inl (refl, none)))

  -- a message begins with a value
  abbrev pub BeginsAs : List ℕ → A → List ℕ → Type 0
  BeginsAs [] a rest = ⊥
  BeginsAs (n ∷ bytes) a rest = (fields_of kinds n).Begins bytes a rest

  pub begins_read : (message : List ℕ) (a : A) → BeginsAs message a [] → ReadsTagged kinds message (Ok a)
  begins_read [] a begins = begins
  begins_read (n ∷ rest) a begins = begins

  module _ (lawful : (n : ℕ) → IsLawful (fields_of kinds n)) where
    -- one that is a value is read as it
    pub read_as_spelled : (message : List ℕ) (a : A) (r : Result A Refusal) → BeginsAs message a [] → ReadsTagged kinds message r → (r ≡ Ok a) ⊎ (r ≡ Err NoMemory)
    read_as_spelled [] a r is read = absurd is
    read_as_spelled (n ∷ rest) a (Ok b) is read = inl (ap Ok ((lawful n).told rest b a [] [] read is).0)
    read_as_spelled (n ∷ rest) a (Err e) is (inl none) = inr (ap Err none)
    read_as_spelled (n ∷ rest) a (Err e) is (inr (inl (_, none))) = absurd (nothing_begins kinds n none rest a [] is)
    read_as_spelled (n ∷ rest) a (Err e) is (inr (inr (place, _, at))) =
        absurd ((whole_lawful (fields_of kinds n) (lawful n)).apart rest a [] at.behind (whole_begins n rest a is) at.fails)

    -- one that is a value, and begins with one, is that one
    pub no_more : (message : List ℕ) (a b : A) (more : List ℕ) → BeginsAs message a [] → BeginsAs message b more → (a ≡ b) × (more ≡ [])
    no_more [] a b more first second = absurd first
    no_more (n ∷ rest) a b more first second =
        let told = (lawful n).told rest a b [] more first second in
        (told.0, sym told.1)

-- nothing comes behind the last part
pub to_end : (a : List ℕ) {bytes rest : List ℕ} → bytes ≡ a ++ rest → [] ≡ rest → bytes ≡ a
to_end a is none = is ∙ ap (λ l. a ++ l) (sym none) ∙ append-nil a
