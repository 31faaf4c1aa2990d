-- A rename of a file, in bytes.
use Rattle.std.specs.Prelude.{◌≡◌, ℕ, true, List, ◌++◌}
use Rattle.su_bytes.specs.FileId.{is_file_id, file_id_bytes}
use Rattle.su_bytes.specs.Name.{is_name}
use Rattle.su_op.specs.declared.rename.Rename.{Rename as Rename_}
use Rattle.su_op.specs.declared.operations.Op.{Op}
use Rattle.su_op.specs.declared.operations.Op.TheVariants.{Rename}
use Rattle.su_format.specs.Format.{Format, making, ◌>>=◌}
use Rattle.su_format.specs.Part.{file_id_part, name_bytes, name_part}

-- its file ids and names are in their ranges
pub record IsRename (r : Rename_) : Type 0 where
  pub from_ : is_file_id r.from_ ≡ true
  pub old_ : is_name r.old_ ≡ true
  pub to_ : is_file_id r.to_ ≡ true
  pub new_ : is_name r.new_ ≡ true
  pub file : is_file_id r.file ≡ true

-- the directory that loses the file, the old name, the directory that gets it, the new name, the
-- file
abbrev pub rename_bytes : Rename_ → List ℕ
rename_bytes r =
    file_id_bytes r.from_ ++ (name_bytes r.old_ ++ (file_id_bytes r.to_
    ++ (name_bytes r.new_ ++ file_id_bytes r.file)))

-- its parts, in that order, and the operation that they make
unfoldable pub rename_fields : Format Op
rename_fields = do
  from ← file_id_part
  old ← name_part
  to ← file_id_part
  new ← name_part
  file ← file_id_part
  making (Rename (record { from_ = from; old_ = old; to_ = to; new_ = new; file = file }))
