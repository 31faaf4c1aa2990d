-- A drop of a body, in bytes.
use Rattle.std.specs.Prelude.{◌≡◌, ℕ, true, List}
use Rattle.su_bytes.specs.FileId.{is_inum}
use Rattle.su_op.specs.declared.drop_body.DropBody.{DropBody}
use Rattle.su_op.specs.declared.operations.Op.{Op}
use Rattle.su_op.specs.declared.operations.Op.TheVariants.{Drop}
use Rattle.su_format.specs.Format.{Format, making, ◌>>=◌}
use Rattle.su_format.specs.Part.{u32_bytes, inum_part}

-- its number is in its range
abbrev pub IsDrop : DropBody → Type 0
IsDrop d = is_inum d.body ≡ true

-- the number of the body
abbrev pub drop_bytes : DropBody → List ℕ
drop_bytes d = u32_bytes d.body

-- its part, and the operation that it makes
unfoldable pub drop_fields : Format Op
drop_fields = do
  body ← inum_part
  making (Drop (record { body = body }))
