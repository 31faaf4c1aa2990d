-- A new empty file or directory.
use Rattle.std.specs.Prelude.{ℕ, List, Result, Ok}
use Rattle.su_bytes.specs.declared.file_ids.FileId.{FileId}
use Rattle.su_bytes.specs.declared.file_ids.FileId.TheVariants.{User, Group}
use Rattle.su_bytes.specs.declared.file_ids.Kind.{Kind}
use Rattle.su_bytes.specs.declared.refusals.Refusal.{Refusal}
use Rattle.su_table.specs.Tree.{Tree}
use Rattle.su_op.specs.declared.operations.Op.{Op}
use Rattle.su_op.specs.declared.operations.Op.TheVariants.{Create}
use Rattle.su_draft.specs.Refusable.{◌>>=◌}
use Rattle.su_draft.specs.Path.{named_path}
use Rattle.su_draft.specs.Walk.{directory_of}
use Rattle.su_draft.specs.Number.{free_group_number}
use Rattle.su_draft.specs.Draft.{empty_draft, with_take, next_body, with_operation}

-- The file id of what user a makes at number n: in a group's directory a file of the group, in a
-- user's directory the author's own.
unfoldable pub new_file : Tree → ℕ → FileId → ℕ → Result FileId Refusal
new_file T a (User u i) n = Ok (User a n)
new_file T a (Group g k) n = do
  m ← free_group_number T g
  Ok (Group g m)

-- writes the directory
unfoldable pub make_draft : Tree → ℕ → Kind → List ℕ → Result (List Op) Refusal
make_draft T a kind path = do
  named ← named_path path
  directory ← directory_of T named
  draft ← with_take T (empty_draft a) directory
  n ← next_body T draft
  file ← new_file T a directory n
  Ok (with_operation draft (Create (record {
    dir = directory;
    name = named.name;
    file = file;
    body = n;
    kind = kind;
  }))).operations
