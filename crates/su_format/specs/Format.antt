-- Formats: which bytes spell a value, and which part of other bytes is refused. A format is a list
-- of parts in order.
use Rattle.std.specs.Prelude.{◌≡◌, ◌≢◌, ℕ, zero, suc, ◌⊎◌, List, [], ◌∷◌, ◌++◌}

-- what a byte string is to a format
pub record Format (A : Type 0) : Type 1 where
  -- it begins with a spelling of the value, and the rest comes behind
  pub Begins : List ℕ → A → List ℕ → Type 0
  -- it begins with no spelling: its parts are there up to the rest, which begins with no spelling
  -- of the part that is next
  pub Fails : List ℕ → List ℕ → Type 0

-- one part: a value of these, in its one spelling
unfoldable pub part : {A : Type 0} → (A → Type 0) → (A → List ℕ) → Format A
part Is spelling = record {
  Begins = λ bytes a rest. Is a × (bytes ≡ spelling a ++ rest);
  Fails = λ bytes rest. (rest ≡ bytes)
      × ((a : _) (behind : List ℕ) → Is a → bytes ≡ spelling a ++ behind → ⊥);
}

-- no part: the value that the parts before it make
unfoldable pub making : {A : Type 0} → A → Format A
making a = record { Begins = λ bytes b rest. (b ≡ a) × (rest ≡ bytes); Fails = λ bytes rest. ⊥ }

-- one format, and then another, which may depend on the value of the first
infixl 10 ◌>>=◌
unfoldable pub ◌>>=◌ : {A B : Type 0} → Format A → (A → Format B) → Format B
f >>= g = record {
  Begins = λ bytes b rest.
      (a : _) × (between : List ℕ) × f.Begins bytes a between × (g a).Begins between b rest;
  Fails = λ bytes rest. f.Fails bytes rest
      ⊎ ((a : _) × (between : List ℕ) × f.Begins bytes a between × (g a).Fails between rest);
}

-- so many values one after another; what a value may be can depend on a number that the one before
-- it leaves
unfoldable pub repeated : {A : Type 0} → (ℕ → Format A) → (A → ℕ) → ℕ → ℕ → Format (List A)
repeated next leaves zero s = making []
repeated next leaves (suc n) s =
    next s >>= (λ a. repeated next leaves n (leaves a) >>= (λ more. making (a ∷ more)))

-- a value that is all there is: left-over bytes are refused at the first of them
unfoldable pub whole : {A : Type 0} → Format A → Format A
whole f = record {
  Begins = λ bytes a rest. f.Begins bytes a [] × (rest ≡ []);
  Fails = λ bytes rest. f.Fails bytes rest ⊎ ((a : _) × f.Begins bytes a rest × (rest ≢ []));
}

-- one spelling for each value, none of which begins another's: bytes begin with at most one value,
-- and then they don't fail; and they fail at one place
pub record IsLawful {A : Type 0} (f : Format A) : Type 0 where
  pub told : (bytes : List ℕ) (a b : A) (rest behind : List ℕ)
      → f.Begins bytes a rest → f.Begins bytes b behind → (a ≡ b) × (rest ≡ behind)
  pub apart : (bytes : List ℕ) (a : A) (rest behind : List ℕ)
      → f.Begins bytes a rest → f.Fails bytes behind → ⊥
  pub one_place : (bytes rest behind : List ℕ)
      → f.Fails bytes rest → f.Fails bytes behind → rest ≡ behind

-- each of these is one that may come at its place
abbrev pub EachFrom : {A : Type 0} → (ℕ → A → Type 0) → (A → ℕ) → ℕ → List A → Type 0
EachFrom Is leaves s [] = Unit {0}
EachFrom Is leaves s (a ∷ more) = Is s a × EachFrom Is leaves (leaves a) more

-- the format of these values, of which each has this spelling
pub record IsFormatOf {A : Type 0} (f : Format A) (Is : A → Type 0) (spelling : A → List ℕ) : Type 0 where
  pub spelled : (bytes : List ℕ) (a : A) (rest : List ℕ)
      → f.Begins bytes a rest → Is a × (bytes ≡ spelling a ++ rest)
  pub begins : (bytes : List ℕ) (a : A) (rest : List ℕ)
      → Is a → bytes ≡ spelling a ++ rest → f.Begins bytes a rest
