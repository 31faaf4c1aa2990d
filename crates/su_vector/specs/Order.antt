-- The order of version vectors, and of what has one. (SUNDR, section 3.3.)
use Rattle.std.specs.Prelude.{◌≡◌, ◌<◌, ◌⊎◌, ℕ, suc, true, cond, List, [], ◌∷◌, length, slice_index_or}
use Rattle.std.specs.List.{AllByRecursion, range_with_len}
use Rattle.std.specs.List.Sorted.{IsPermutation}
use Rattle.su_vector.specs.Vector.{le}

-- the vector at a position
abbrev pub vector_at : List (List ℕ) → ℕ → List ℕ
vector_at vs i = slice_index_or vs i []

-- the vector at the one position is at most that at the other
abbrev pub IsAtMost : List (List ℕ) → ℕ → ℕ → Type 0
IsAtMost vs i j = le (vector_at vs i) (vector_at vs j) ≡ true

abbrev pub AreComparable : List (List ℕ) → ℕ → ℕ → Type 0
AreComparable vs i j = IsAtMost vs i j ⊎ IsAtMost vs j i

-- the first pair, by its first position and then by its second, that isn't comparable
pub record IsFirstUnordered (vs : List (List ℕ)) (i j : ℕ) : Type 0 where
  pub in_order : i < j
  pub within : j < length vs
  pub unordered : AreComparable vs i j → ⊥
  pub first : (a b : ℕ) → a < b → b < length vs
      → (a < i) ⊎ ((a ≡ i) × (b < j)) → AreComparable vs a b

-- the vector at i is at most that at j, and of equal ones i is the earlier position
abbrev pub ComesBefore : List (List ℕ) → ℕ → ℕ → Type 0
ComesBefore vs i j = IsAtMost vs i j × (vector_at vs i ≡ vector_at vs j → i < j)

-- each of these positions comes before all that stand behind it
abbrev pub Ascend : List (List ℕ) → List ℕ → Type 0
Ascend vs [] = Unit {0}
Ascend vs (i ∷ others) = AllByRecursion (ComesBefore vs i) others × Ascend vs others

-- all positions, from the least vector up, equal ones by position
pub record IsOrder (vs : List (List ℕ)) (order : List ℕ) : Type 0 where
  pub positions : IsPermutation (range_with_len 0 (length vs)) order
  pub ascending : Ascend vs order

-- how many of these positions, from the front, have a vector that is at most that of p
abbrev pub place_in : List (List ℕ) → List ℕ → ℕ → ℕ
place_in vs [] p = 0
place_in vs (q ∷ others) p =
    cond (le (vector_at vs q) (vector_at vs p)) (suc (place_in vs others p)) 0
