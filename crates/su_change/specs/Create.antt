-- A new file or directory, in bytes.
use Rattle.std.specs.Prelude.{◌≡◌, ℕ, true, List, ◌++◌}
use Rattle.su_bytes.specs.FileId.{is_inum}
use Rattle.su_op.specs.declared.create.Create.{Create as Create_}
use Rattle.su_op.specs.declared.operations.Op.{Op}
use Rattle.su_op.specs.declared.operations.Op.TheVariants.{Create}
use Rattle.su_format.specs.Format.{Format, making, ◌>>=◌}
use Rattle.su_format.specs.Part.{u32_bytes, inum_part, kind_bytes, kind_part}
use Rattle.su_change.specs.NameAt.{IsNameAt, created_name, name_at_bytes, name_at_format}

-- its file ids, name and number are in their ranges
pub record IsCreate (c : Create_) : Type 0 where
  pub name_at : IsNameAt (created_name c)
  pub body : is_inum c.body ≡ true

-- the directory, the name, the file; the number of its body, its kind
abbrev pub create_bytes : Create_ → List ℕ
create_bytes c = name_at_bytes (created_name c) ++ (u32_bytes c.body ++ kind_bytes c.kind)

-- its parts, in that order, and the operation that they make
unfoldable pub create_fields : Format Op
create_fields = do
  n ← name_at_format
  body ← inum_part
  kind ← kind_part
  making (Create (record {
    dir = n.dir;
    name = n.name;
    file = n.file;
    body = body;
    kind = kind;
  }))
