-- A batch as a history keeps it in memory.
use Rattle.std.specs.Prelude.{◌≡◌, ℕ, List, [], ◌∷◌}
use Rattle.su_op.specs.declared.operations.Op.{Op}
use Rattle.su_op.specs.Action.{batch_bytes, only_of}
use Rattle.su_change.specs.Outline.{IsOutlineOf}
use Rattle.su_desk.specs.declared.fillings.Filling.{Filling}
use Rattle.su_desk.specs.Filling.{filling_of}

-- what is kept of operations: their outline, how many bytes they write, and what one alone does to the
-- bytes of a file
pub record IsKeptAs (outline : List ℕ) (count : ℕ) (filling : Filling) (ops : List Op) : Type 0 where
  pub outline_is : IsOutlineOf ops outline
  pub count_is : count ≡ batch_bytes ops
  pub filling_is : filling ≡ filling_of (only_of ops)

-- the operations that a log has alone, none where it has nothing
abbrev pub first_in : List (List Op × Unit {0}) → List Op
first_in [] = []
first_in (pair ∷ pairs) = pair.0
