-- What a group's part stands for.
use Rattle.std.specs.Prelude.{◌≡◌, ◌≢◌, ◌⊎◌, ◌<◌, ◌^◌, ℕ, IsTrue, List, Option, Some, None, ⊤}
use Rattle.std.specs.FinMap.{get}
use Rattle.su_bytes.specs.Place.{Place, is_place}
use Rattle.su_tree.specs.Number.{number_bits, number_bytes, is_u32}
use Rattle.su_tree.specs.Value.{place_bytes}
use Rattle.su_hash_tree.specs.Sort.{Sort, sort}
use Rattle.su_part_tree.specs.Loading.{NoClash}
use Rattle.su_part_tree.specs.Part.{StandsFor, reaches}
use Rattle.su_table.specs.Tree.{Tree}
use Rattle.su_table.specs.Handle.{group_table}
use Rattle.su_group_part.specs.declared.groups.GroupPart.{GroupPart}

-- maps from numbers to places
abbrev pub place_sort : Sort ℕ Place
place_sort = sort number_bits number_bytes is_u32 place_bytes is_place

-- the place, if there is one, is one that a user's table can have
abbrev pub IsMeantPlace : Option Place → Type 0
IsMeantPlace None = ⊤
IsMeantPlace (Some p) = IsTrue (is_place p)

-- What group g has in T is in its ranges: the numbers of its files, and the places of their bodies.
pub record MeantGroup (g : ℕ) (T : Tree) : Type 0 where
  pub numbers : (n : ℕ) → get T.pointers (g, n) ≢ None → n < 2 ^ 32
  pub places : (n : ℕ) → IsMeantPlace (get T.pointers (g, n))

-- The part stands for what group g has in T: its table stands for the group's i-table.
abbrev pub StandsGroup : ℕ → GroupPart → Tree → Type 0
StandsGroup g p T = StandsFor place_sort p.table (group_table T g)

-- no byte string that is hashed for group g's i-table has the SHA-256 of another one that meets P
abbrev pub FreeGroup : ℕ → Tree → (List ℕ → Type 0) → Type 0
FreeGroup g T P = NoClash place_sort (group_table T g) P

-- the number's path is loaded: no stub stands on it
abbrev pub HasPointer : ℕ → GroupPart → Type 0
HasPointer n p = IsTrue (reaches number_bits n p.table)

-- the number's path is loaded, or T has no pointer there
abbrev pub KnowsPointer : ℕ → Tree → ℕ → GroupPart → Type 0
KnowsPointer g T n p = HasPointer n p ⊎ (get T.pointers (g, n) ≡ None)
