-- The items that no file has.
use Rattle.std.specs.Prelude.{ℕ, List, Option}
use Rattle.std.specs.Map.{lookup}
use Rattle.std.specs.Str.{bytes_eq}

-- their digests, each beside the number of the first file with a record that needs the item
abbrev pub Lacking : Type 0
Lacking = List (List ℕ × ℕ)

-- the file of a lacking item
abbrev pub file_for : Lacking → List ℕ → Option ℕ
file_for items digest = lookup (bytes_eq digest) items
