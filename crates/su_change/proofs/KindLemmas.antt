-- Kinds of values, told by their numbers: each value has one spelling, which begins no other.
use Rattle.std.proofs.Common.{◌≡◌, ◌∙◌, ℕ, ◌<◌, Bool, true, false, cond, nat_eq, List, [], ◌∷◌, ◌++◌, refl, sym, ap, subst}
use Rattle.std.proofs.lemmas.Bool.{eqb-true}
use Rattle.std.specs.Prelude.{Result}
use Rattle.su_bytes.specs.declared.refusals.Refusal.{Refusal}
use Rattle.su_format.specs.Format.{Format, IsLawful, part, ◌>>=◌}
use Rattle.su_format.specs.Part.{u8_part}
use Rattle.su_format.specs.Reading.{Reading, Takes}
use Rattle.su_format.proofs.Public.{Makes, in_order, u8_lawful}
use Rattle.su_change.specs.Kinds.{no_kind, fields_of, one_of}

-- ---- what the number of a kind tells

-- The fields make the values of the kind with the number, each of one of these, which has one
-- spelling.
pub record IsKind {A V : Type 0} (Fits : V → Type 0) (bytes_of : V → List ℕ) (number : ℕ) (f : Format V) (make : A → V) (Is : A → Type 0) (spelling : A → List ℕ) : Type 0 where
  pub makes : Makes f make Is spelling
  pub is : (a : A) → Is a → Fits (make a) × (bytes_of (make a) ≡ number ∷ spelling a)

-- the fields behind the number spell values of that kind
pub record Tells {V : Type 0} (Fits : V → Type 0) (bytes_of : V → List ℕ) (n : ℕ) (f : Format V) : Type 0 where
  pub lawful : IsLawful f
  pub spelled : (bytes : List ℕ) (v : V) (rest : List ℕ) → f.Begins bytes v rest → Fits v × (n ∷ bytes ≡ bytes_of v ++ rest)

pub told : {A V : Type 0} {Fits : V → Type 0} {bytes_of : V → List ℕ} {n : ℕ} {f : Format V} {make : A → V} {Is : A → Type 0} {spelling : A → List ℕ} → IsKind Fits bytes_of n f make Is spelling → Tells Fits bytes_of n f
told {Fits} {bytes_of} {n} kind = record {
  lawful = kind.makes.lawful;
  spelled = λ bytes v rest b.
      let s = kind.makes.spelled bytes v rest b in
      let k = kind.is s.0 s.2 in
      subst (λ d. Fits d × (n ∷ bytes ≡ bytes_of d ++ rest)) (sym s.1)
      (k.0, ap (λ l. n ∷ l) s.3 ∙ ap (λ l. l ++ rest) (sym k.1));
}

-- no kind's number tells nothing
none_told : {V : Type 0} (Fits : V → Type 0) (bytes_of : V → List ℕ) (n : ℕ) → Tells Fits bytes_of n (no_kind n)
unfolding no_kind
none_told Fits bytes_of n = record {
  lawful = record {
    told = λ bytes a b rest behind x y. absurd x;
    apart = λ bytes a rest behind x y. x;
    one_place = λ bytes rest behind x y. x ∙ sym y;
  };
  spelled = λ bytes v rest b. absurd b;
}

abbrev pub AllTell : {V : Type 0} → (V → Type 0) → (V → List ℕ) → List (ℕ × Format V) → Type 0
AllTell Fits bytes_of [] = Unit {0}
AllTell Fits bytes_of (kind ∷ others) = Tells Fits bytes_of kind.0 kind.1 × AllTell Fits bytes_of others

fields_tell : {V : Type 0} (Fits : V → Type 0) (bytes_of : V → List ℕ) (rows : List (ℕ × Format V)) → AllTell Fits bytes_of rows → (n : ℕ) → Tells Fits bytes_of n (fields_of rows n)
fields_tell Fits bytes_of [] all n = none_told Fits bytes_of n
fields_tell Fits bytes_of (kind ∷ others) all n = go (nat_eq n kind.0) refl (fields_tell Fits bytes_of others all.1 n)
  where
    go : (same : Bool) → nat_eq n kind.0 ≡ same → Tells Fits bytes_of n (fields_of others n) → Tells Fits bytes_of n (cond same kind.1 (fields_of others n))
    go true is other = subst (λ k. Tells Fits bytes_of k kind.1) (sym (eqb-true _ _ is)) all.0
    go false is other = other

-- ---- what a value tells

-- the value has a kind, whose number comes first, and whose fields begin with it
pub record HasKind {V : Type 0} (rows : List (ℕ × Format V)) (bytes_of : V → List ℕ) (v : V) : Type 0 where
  pub number : ℕ
  pub fields : List ℕ
  pub small : number < 256
  pub spelled : bytes_of v ≡ number ∷ fields
  pub begins : (rest : List ℕ) → (fields_of rows number).Begins (fields ++ rest) v rest

pub of_kind : {A V : Type 0} {rows : List (ℕ × Format V)} {Fits : V → Type 0} {bytes_of : V → List ℕ} {n : ℕ} {make : A → V} {Is : A → Type 0} {spelling : A → List ℕ} → n < 256 → IsKind Fits bytes_of n (fields_of rows n) make Is spelling → (a : A) → Is a → HasKind rows bytes_of (make a)
of_kind {n} {spelling} small kind a is = record {
  number = n;
  fields = spelling a;
  small = small;
  spelled = (kind.is a is).1;
  begins = λ rest. kind.makes.begins (spelling a ++ rest) a rest is refl;
}

pub one_makes : {V : Type 0} {rows : List (ℕ × Format V)} {Fits : V → Type 0} {bytes_of : V → List ℕ} → AllTell Fits bytes_of rows → ((v : V) → Fits v → HasKind rows bytes_of v) → Makes (one_of rows) (λ v. v) Fits bytes_of
unfolding one_of ◌>>=◌ part u8_part
one_makes {rows} {Fits} {bytes_of} all each = record {
  lawful = in_order u8_part (fields_of rows) u8_lawful (λ n. (fields_tell Fits bytes_of rows all n).lawful);
  spelled = λ bytes v rest x.
      let s = (fields_tell Fits bytes_of rows all x.0).spelled x.1 v rest x.3 in
      (v, refl, s.0, x.2.1 ∙ s.1);
  begins = λ bytes v rest is e.
      let k = each v is in
      (k.number, k.fields ++ rest, (k.small, e ∙ ap (λ l. l ++ rest) k.spelled), k.begins rest);
}

-- ---- what is read of a number of no kind

-- no kind has the number
abbrev pub HasNoKind : {V : Type 0} → List (ℕ × Format V) → ℕ → Type 0
HasNoKind [] n = Unit {0}
HasNoKind (kind ∷ others) n = (n ≡ kind.0 → ⊥) × HasNoKind others n

-- then the number is what is refused
pub no_kind_fails : {V : Type 0} (rows : List (ℕ × Format V)) (n : ℕ) → HasNoKind rows n → (bytes : List ℕ) → (fields_of rows n).Fails bytes (n ∷ bytes)
unfolding no_kind
no_kind_fails [] n none bytes = refl
no_kind_fails (kind ∷ others) n none bytes = go (nat_eq n kind.0) refl (no_kind_fails others n none.1 bytes)
  where
    go : (same : Bool) → nat_eq n kind.0 ≡ same → (fields_of others n).Fails bytes (n ∷ bytes) → (cond same kind.1 (fields_of others n)).Fails bytes (n ∷ bytes)
    go true is other = absurd (none.0 (eqb-true _ _ is))
    go false is other = other

-- what comes of the other kinds comes of all, where the first has another number
pub not_the_first : {V : Type 0} (kind : ℕ × Format V) (others : List (ℕ × Format V)) (n : ℕ) (old : Reading) (r : Result V Refusal) (new : Reading) → (n ≡ kind.0 → ⊥) → Takes (fields_of others n) old r new → Takes (fields_of (kind ∷ others) n) old r new
not_the_first {V} kind others n old r new other takes = go (nat_eq n kind.0) refl
  where
    go : (same : Bool) → nat_eq n kind.0 ≡ same → Takes (cond same kind.1 (fields_of others n)) old r new
    go true is = absurd (other (eqb-true _ _ is))
    go false is = takes
