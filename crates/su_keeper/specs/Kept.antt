-- The records that a keeper keeps, and those that it was found with.
use Rattle.std.specs.Prelude.{◌≡◌, ℕ, List, [], ◌∷◌, Option, Some, None}

-- the bytes of a commit, and the items that were handed in with it: each lies under its digest
pub record KeptRecord : Type 0 where
  pub commit : List ℕ
  pub items : List (List ℕ)

-- the first of those that were found
abbrev pub first_found : List (List ℕ) → Option (List ℕ)
first_found [] = None
first_found (commit ∷ rest) = Some commit

-- of those that were found the commit is the first, unless there is none; these are left behind it
abbrev pub LeavesFound : {K : Type 0} → (K → List (List ℕ) → Type 0) → List ℕ → List (List ℕ) → K
    → Type 0
LeavesFound found commit [] keeper = found keeper []
LeavesFound found commit (first ∷ rest) keeper = (commit ≡ first) × found keeper rest
