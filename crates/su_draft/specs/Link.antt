-- A file gets one more name.
use Rattle.std.specs.Prelude.{ℕ, List, Result, Ok}
use Rattle.su_bytes.specs.declared.refusals.Refusal.{Refusal}
use Rattle.su_table.specs.Tree.{Tree}
use Rattle.su_op.specs.declared.operations.Op.{Op}
use Rattle.su_op.specs.declared.operations.Op.TheVariants.{Link}
use Rattle.su_draft.specs.Refusable.{◌>>=◌}
use Rattle.su_draft.specs.Path.{path_names, named_path}
use Rattle.su_draft.specs.Walk.{at, directory_of}
use Rattle.su_draft.specs.Draft.{empty_draft, with_take, with_operation}

-- writes the directory of the new name, and the file
unfoldable pub link_draft : Tree → ℕ → List ℕ → List ℕ → Result (List Op) Refusal
link_draft T a old new = do
  names ← path_names old
  named ← named_path new
  file ← at T names
  directory ← directory_of T named
  with_directory ← with_take T (empty_draft a) directory
  draft ← with_take T with_directory file
  Ok (with_operation draft
      (Link (record { dir = directory; name = named.name; file = file }))).operations
