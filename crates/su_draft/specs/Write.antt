-- Bytes are written to a file.
use Rattle.std.specs.Prelude.{ℕ, List, Result, Ok}
use Rattle.su_bytes.specs.declared.refusals.Refusal.{Refusal}
use Rattle.su_table.specs.Tree.{Tree}
use Rattle.su_op.specs.declared.operations.Op.{Op}
use Rattle.su_op.specs.declared.operations.Op.TheVariants.{Write}
use Rattle.su_draft.specs.Refusable.{◌>>=◌}
use Rattle.su_draft.specs.Path.{path_names}
use Rattle.su_draft.specs.Walk.{at}
use Rattle.su_draft.specs.Draft.{empty_draft, with_take, with_operation}

-- writes the file
unfoldable pub write_draft : Tree → ℕ → List ℕ → ℕ → List ℕ → Result (List Op) Refusal
write_draft T a path off bytes = do
  names ← path_names path
  file ← at T names
  draft ← with_take T (empty_draft a) file
  Ok (with_operation draft
      (Write (record { file = file; off = off; bytes = bytes }))).operations
