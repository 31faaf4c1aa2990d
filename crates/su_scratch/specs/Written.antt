-- What was written into a scratch.
use Rattle.std.specs.Prelude.{◌≡◌, ℕ, List, ◌++◌, length}

-- these bytes begin at that place, as 5 ∷ 6 ∷ [] do at 1 in 4 ∷ 5 ∷ 6 ∷ 7 ∷ []
pub record LiesAt (written : List ℕ) (place : ℕ) (bytes : List ℕ) : Type 0 where
  pub front : List ℕ
  pub back : List ℕ
  pub place_is : length front ≡ place
  pub written_is : written ≡ front ++ (bytes ++ back)
