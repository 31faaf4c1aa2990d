-- What is seen of a forest of parts: the plain tree of what is loaded.
use Rattle.std.specs.Prelude.{ℕ, ◌+◌, List, [], ◌∷◌, ◌++◌}
use Rattle.std.specs.FinMap.{from_entries}
use Rattle.su_bytes.specs.Place.{Place}
use Rattle.su_table.specs.Tree.{Tree}
use Rattle.su_part_tree.specs.Part.{loaded}
use Rattle.su_part.specs.Seen.{seen_inode, loaded_inodes}
use Rattle.su_group_part.specs.declared.groups.GroupPart.{GroupPart}
use Rattle.su_part_forest.specs.declared.forests.PartForest.{PartForest}

-- the pointers of a group that are loaded, at their numbers
abbrev pub loaded_pointers : GroupPart → List (ℕ × Place)
loaded_pointers p = loaded p.table

-- a principal's values by their numbers, each at its place, as `seen` makes it
abbrev pub placed : {X Y : Type 0} → (X → Y) → ℕ → List (ℕ × X) → List (Place × Y)
placed value principal [] = []
placed value principal (e ∷ es) = ((principal, e.0), value e.1) ∷ placed value principal es

-- the same of the parts of all principals from a number on
abbrev pub all_placed : {P X Y : Type 0} → (P → List (ℕ × X)) → (X → Y) → ℕ → List P
    → List (Place × Y)
all_placed values value principal [] = []
all_placed values value principal (p ∷ ps) =
    placed value principal (values p) ++ all_placed values value (principal + 1) ps

-- The plain tree of what is loaded: the inodes as they are seen, and the pointers.
unfoldable pub seen : PartForest → Tree
seen f = record {
  inodes = from_entries (all_placed loaded_inodes seen_inode 0 f.users.items);
  pointers = from_entries (all_placed loaded_pointers (λ place. place) 0 f.groups.items);
}
