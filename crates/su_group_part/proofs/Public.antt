-- The lemmas that proofs of other crates may cite: what stays so from call to call.
use Rattle.std.proofs.Common.{ℕ, List, inl}
use Rattle.su_tree.specs.Number.{number_bits}
use Rattle.su_part_tree.specs.Part.{HasRoot}
use Rattle.su_table.specs.Tree.{Tree}
use Rattle.su_group_part.specs.declared.groups.GroupPart.{GroupPart}
use Rattle.su_group_part.specs.Part.{FreeGroup, HasPointer, KnowsPointer}
use Rattle.su_group_part.proofs.GroupLemmas.{root_loaded}

-- a pointer whose path is loaded is known
pub known_of : (g : ℕ) (T : Tree) (n : ℕ) (p : GroupPart) → HasPointer n p → KnowsPointer g T n p
known_of g T n p has = inl has

-- and the root's node is loaded
pub root_of : (n : ℕ) (p : GroupPart) → HasPointer n p → HasRoot p.table
root_of n p has = root_loaded number_bits n p.table.root has

-- what clashes with nothing of more clashes with nothing of less
pub free_on : (g : ℕ) (T : Tree) (P Q : List ℕ → Type 0) → ((s : List ℕ) → Q s → P s) → FreeGroup g T P → FreeGroup g T Q
free_on g T P Q less free a b in_table q same = free a b in_table (less b q) same
