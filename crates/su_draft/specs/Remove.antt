-- A name goes, and the file with its last name.
use Rattle.std.specs.Prelude.{ℕ, List, Result, Ok}
use Rattle.su_bytes.specs.declared.refusals.Refusal.{Refusal}
use Rattle.su_table.specs.Tree.{Tree}
use Rattle.su_op.specs.declared.operations.Op.{Op}
use Rattle.su_op.specs.declared.operations.Op.TheVariants.{Unlink}
use Rattle.su_draft.specs.Refusable.{◌>>=◌}
use Rattle.su_draft.specs.Path.{named_path}
use Rattle.su_draft.specs.Walk.{entry, directory_of}
use Rattle.su_draft.specs.Draft.{empty_draft, with_take, with_operation}

-- writes the directory, and the file
unfoldable pub remove_draft : Tree → ℕ → List ℕ → Result (List Op) Refusal
remove_draft T a path = do
  named ← named_path path
  directory ← directory_of T named
  file ← entry T directory named.name
  with_directory ← with_take T (empty_draft a) directory
  draft ← with_take T with_directory file
  Ok (with_operation draft
      (Unlink (record { dir = directory; name = named.name; file = file }))).operations
