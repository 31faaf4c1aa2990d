-- How the operations of a command are cut into parts, each of which is committed as one change.
-- (This project's own.)
use Rattle.std.specs.Prelude.{◌≡◌, ◌≤◌, ◌⊎◌, ◌++◌, ℕ, Bool, true, false, List, [], ◌∷◌, length}
use Rattle.su_op.specs.declared.operations.Op.{Op}
use Rattle.su_change.specs.Filling.{IsLongestHead}

-- how many of these operations their first part has: one; in batches as many as one item has room
-- for, and one where it hasn't room for that either
abbrev pub IsFirstPart : Bool → List Op → ℕ → Type 0
IsFirstPart false ops n = n ≡ 1
IsFirstPart true ops n = (1 ≤ n) × (IsLongestHead ops n ⊎ ((n ≡ 1) × IsLongestHead ops 0))

-- these are the parts of the operations, in their order
abbrev pub IsCut : Bool → List Op → List (List Op) → Type 0
IsCut batches ops [] = ops ≡ []
IsCut batches ops (part ∷ parts) =
    IsFirstPart batches ops (length part)
    × ((left : List Op) × (ops ≡ part ++ left) × IsCut batches left parts)
