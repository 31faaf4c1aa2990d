-- Copies of parts.
use Rattle.std.specs.Prelude.{ℕ, List, [], ◌∷◌, ⊤}
use Rattle.su_table.specs.Tree.{Tree}
use Rattle.su_part.specs.declared.users.UserPart.{UserPart}
use Rattle.su_part.specs.Part.{StandsUser, HasAll}
use Rattle.su_group_part.specs.declared.groups.GroupPart.{GroupPart}
use Rattle.su_group_part.specs.Part.{StandsGroup, HasPointer}

-- q stands for what p stands for, and of it is loaded what is loaded of p
pub record IsUserCopy (p q : UserPart) : Type 0 where
  pub stands : (u : ℕ) (T : Tree) → StandsUser u p T → StandsUser u q T
  pub all : HasAll p q

pub record IsGroupCopy (p q : GroupPart) : Type 0 where
  pub stands : (g : ℕ) (T : Tree) → StandsGroup g p T → StandsGroup g q T
  pub all : (n : ℕ) → HasPointer n p → HasPointer n q

-- so each of one list, in their order
abbrev pub AreCopies : {X : Type 0} → (X → X → Type 0) → List X → List X → Type 0
AreCopies R [] [] = ⊤
AreCopies R (x ∷ xs) (y ∷ ys) = R x y × AreCopies R xs ys
AreCopies R _ _ = ⊥
