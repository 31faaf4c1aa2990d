-- Walks: which file a path leads to in a tree.
use Rattle.std.specs.Prelude.{ℕ, List, [], ◌∷◌, Option, Some, None, Result, Ok, Err, cond}
use Rattle.std.specs.Option.{ok_or}
use Rattle.su_bytes.specs.declared.file_ids.FileId.{FileId}
use Rattle.su_bytes.specs.declared.file_ids.FileId.TheVariants.{Group}
use Rattle.su_bytes.specs.declared.refusals.Refusal.{Refusal}
use Rattle.su_bytes.specs.declared.refusals.Refusal.TheVariants.{NoName, WrongKind}
use Rattle.su_bytes.specs.Place.{Place}
use Rattle.su_node.specs.Name.{Name}
use Rattle.su_node.specs.Field.{Field.NameOf, Value, Value.AFile}
use Rattle.su_table.specs.Tree.{Tree}
use Rattle.su_table.specs.Cell.{Cell.At, val}
use Rattle.su_table.specs.Query.{body, is_dir_at}
use Rattle.su_draft.specs.Refusable.{◌>>=◌}
use Rattle.su_draft.specs.Path.{NamedPath, path_names}

-- where each walk begins: file 1 of group 0
abbrev pub root : FileId
root = Group 0 1

-- the file that the cell of a name holds
abbrev pub file_held : Value → Option FileId
file_held (AFile f) = Some f
file_held _ = None

-- the file that the name leads to in the directory at place d
unfoldable pub led_to : Tree → Place → Name → Option FileId
led_to T d x = file_held (val T (At d (NameOf x)))

-- where a directory stands, if one stands there
abbrev pub directory_at : Tree → FileId → Option Place → Result Place Refusal
directory_at T f None = Err (WrongKind f)
directory_at T f (Some d) = cond (is_dir_at T d) (Ok d) (Err (WrongKind f))

-- where a directory stands; `WrongKind` of a file that is none
unfoldable pub directory_place : Tree → FileId → Result Place Refusal
directory_place T f = directory_at T f (body T f)

-- one step: from a directory to the file that a name leads to, `NoName` where the name is missing
unfoldable pub entry : Tree → FileId → Name → Result FileId Refusal
entry T f x = do
  d ← directory_place T f
  ok_or (led_to T d x) NoName

-- from a directory on, name by name
abbrev pub walk : Tree → FileId → List Name → Result FileId Refusal
walk T f [] = Ok f
walk T f (x ∷ names) = do
  next ← entry T f x
  walk T next names

-- the file at the end of a path
unfoldable pub at : Tree → List Name → Result FileId Refusal
at T names = walk T root names

-- the directory where the last name of a path is looked for
unfoldable pub directory_of : Tree → NamedPath → Result FileId Refusal
directory_of T path = do
  directory ← at T path.directory
  place ← directory_place T directory
  Ok directory

-- the file at the end of a path, as it is written
unfoldable pub found : Tree → List ℕ → Result FileId Refusal
found T path = do
  names ← path_names path
  at T names
