-- Paths: the way from the root to a file, in bytes.
use Rattle.std.specs.Prelude.{◌≡◌, ℕ, Bool, List, [], ◌∷◌, Result, Ok, Err, nat_eq, if◌then◌else◌}
use Rattle.std.specs.List.{AllPass, list_all, slice_split, join_with_byte}
use Rattle.su_bytes.specs.Name.{is_name}
use Rattle.su_bytes.specs.declared.refusals.Refusal.{Refusal}
use Rattle.su_bytes.specs.declared.refusals.Refusal.TheVariants.{BadPath}
use Rattle.su_node.specs.Name.{Name}
use Rattle.su_draft.specs.Refusable.{◌>>=◌}

-- ---- the spelling of a path

-- a `/`, and then the names, with a `/` between each two; the root has no names
abbrev pub path_spelling : List Name → List ℕ
path_spelling names = 47 ∷ join_with_byte 47 names

-- the bytes spell the path of these names
pub record IsPath (bytes : List ℕ) (names : List Name) : Type 0 where
  pub are_names : AllPass is_name names
  pub spelled : bytes ≡ path_spelling names

-- ---- how it is read

abbrev pub is_slash : ℕ → Bool
is_slash b = nat_eq b 47

-- the pieces between slashes
abbrev pub pieces_of : List ℕ → List (List ℕ)
pieces_of bytes = slice_split is_slash bytes

-- pieces that are all names
unfoldable pub all_names : List (List ℕ) → Result (List Name) Refusal
all_names pieces = if list_all is_name pieces then Ok pieces else Err BadPath

-- behind the first `/`: nothing, or names
abbrev pub names_behind : List ℕ → Result (List Name) Refusal
names_behind [] = Ok []
names_behind (b ∷ bytes) = all_names (pieces_of (b ∷ bytes))

-- The names of a path; `BadPath` where the bytes spell none.
unfoldable pub path_names : List ℕ → Result (List Name) Refusal
path_names [] = Err BadPath
path_names (b ∷ bytes) = if is_slash b then names_behind bytes else Err BadPath

-- ---- the last name of a path

-- a name, and the names that lead to the directory where it is looked for
pub record NamedPath : Type 0 where
  pub directory : List Name
  pub name : Name

-- with a name more at the front
abbrev pub below : Name → NamedPath → NamedPath
below x path = record { directory = x ∷ path.directory; name = path.name }

-- of a name and those behind it
abbrev pub last_named : Name → List Name → NamedPath
last_named x [] = record { directory = []; name = x }
last_named x (y ∷ names) = below x (last_named y names)

-- the root has no name
unfoldable pub with_name : List Name → Result NamedPath Refusal
with_name [] = Err BadPath
with_name (x ∷ names) = Ok (last_named x names)

-- The last name of a path, and its directory; `BadPath` where the bytes spell none, or the root.
unfoldable pub named_path : List ℕ → Result NamedPath Refusal
named_path bytes = do
  names ← path_names bytes
  with_name names
