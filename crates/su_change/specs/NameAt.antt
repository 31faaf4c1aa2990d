-- A name in a directory and its file, in bytes: what a create and a link make, and an unlink takes
-- away.
use Rattle.std.specs.Prelude.{◌≡◌, ℕ, true, List, ◌++◌}
use Rattle.su_bytes.specs.FileId.{is_file_id, file_id_bytes}
use Rattle.su_bytes.specs.Name.{is_name}
use Rattle.su_op.specs.declared.create.Create.{Create}
use Rattle.su_op.specs.declared.link.Link.{Link as Link_}
use Rattle.su_op.specs.declared.unlink.Unlink.{Unlink as Unlink_}
use Rattle.su_op.specs.declared.operations.Op.{Op}
use Rattle.su_op.specs.declared.operations.Op.TheVariants.{Link, Unlink}
use Rattle.su_format.specs.Format.{Format, making, ◌>>=◌}
use Rattle.su_format.specs.Part.{file_id_part, name_bytes, name_part}
use Rattle.su_change.specs.declared.name_at.NameAt.{NameAt}

-- its file ids and its name are in their ranges
pub record IsNameAt (n : NameAt) : Type 0 where
  pub dir : is_file_id n.dir ≡ true
  pub name : is_name n.name ≡ true
  pub file : is_file_id n.file ≡ true

-- the directory, the name, the file
abbrev pub name_at_bytes : NameAt → List ℕ
name_at_bytes n = file_id_bytes n.dir ++ (name_bytes n.name ++ file_id_bytes n.file)

-- its parts, in that order
unfoldable pub name_at_format : Format NameAt
name_at_format = do
  dir ← file_id_part
  name ← name_part
  file ← file_id_part
  making (record { dir = dir; name = name; file = file })

-- ---- whose names they are

-- the name that a create makes
abbrev pub created_name : Create → NameAt
created_name c = record { dir = c.dir; name = c.name; file = c.file }

-- the name that a link makes
abbrev pub linked_name : Link_ → NameAt
linked_name l = record { dir = l.dir; name = l.name; file = l.file }

-- the name that an unlink takes away
abbrev pub unlinked_name : Unlink_ → NameAt
unlinked_name u = record { dir = u.dir; name = u.name; file = u.file }

-- the fields of a link, and the operation that they make
unfoldable pub link_fields : Format Op
link_fields = do
  n ← name_at_format
  making (Link (record { dir = n.dir; name = n.name; file = n.file }))

-- the fields of an unlink, and the operation that they make
unfoldable pub unlink_fields : Format Op
unlink_fields = do
  n ← name_at_format
  making (Unlink (record { dir = n.dir; name = n.name; file = n.file }))
