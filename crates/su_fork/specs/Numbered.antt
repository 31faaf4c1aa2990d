-- Lists whose elements are numbered from 1, and where two of them part.
use Rattle.std.specs.Prelude.{◌≡◌, ◌≢◌, ◌-◌, ℕ, cond, take, List, ◌++◌, Option, None, Some, nat_eq, slice_get}

-- the element of a number, if there is one
abbrev pub at : {A : Type 0} → List A → ℕ → Option A
at xs n = cond (nat_eq n 0) None (slice_get xs (n - 1))

-- the second list begins with the first
pub record IsFrontOf {A : Type 0} (xs ys : List A) : Type 0 where
  pub rest : List A
  pub whole : ys ≡ xs ++ rest

-- both lists have an element of this number, and not the same
pub record DifferAt {A : Type 0} (n : ℕ) (xs ys : List A) : Type 0 where
  pub first : A
  pub second : A
  pub first_is : at xs n ≡ Some first
  pub second_is : at ys n ≡ Some second
  pub differ : first ≢ second

-- the lists fork at this number: it is the first at which they differ
pub record ForkAt {A : Type 0} (n : ℕ) (xs ys : List A) : Type 0 where
  pub before : take (n - 1) xs ≡ take (n - 1) ys
  pub there : DifferAt n xs ys

-- one of two lists begins with the other, or they fork
pub data Related {A : Type 0} (xs ys : List A) : Type 0 where
  behind : IsFrontOf xs ys → Related xs ys
  ahead : IsFrontOf ys xs → Related xs ys
  forked : (n : ℕ) → ForkAt n xs ys → Related xs ys
