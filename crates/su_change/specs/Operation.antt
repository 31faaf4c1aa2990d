-- An operation in bytes: the number of its kind, and its fields. It is spelled so in an item of its
-- own, behind the first byte, and among the operations of a batch.
use Rattle.std.specs.Prelude.{ℕ, List, [], ◌∷◌}
use Rattle.su_op.specs.declared.operations.Op.{Op}
use Rattle.su_op.specs.declared.operations.Op.TheVariants.{Create, Write, Truncate, Link, Rename, Unlink, Take, Drop}
use Rattle.su_format.specs.Format.{Format}
use Rattle.su_change.specs.Kinds.{one_of}
use Rattle.su_change.specs.NameAt.{IsNameAt, name_at_bytes, linked_name, unlinked_name, link_fields, unlink_fields}
use Rattle.su_change.specs.Create.{IsCreate, create_bytes, create_fields}
use Rattle.su_change.specs.Write.{IsWrite, HasLength, write_bytes, write_fields}
use Rattle.su_change.specs.Truncate.{IsTruncate, truncate_bytes, truncate_fields}
use Rattle.su_change.specs.Rename.{IsRename, rename_bytes, rename_fields}
use Rattle.su_change.specs.Take.{IsTake, take_bytes, take_fields}
use Rattle.su_change.specs.DropBody.{IsDrop, drop_bytes, drop_fields}

-- each number and name of an operation is in its range, as the types of the code have it
abbrev pub IsOp : Op → Type 0
IsOp (Create c) = IsCreate c
IsOp (Write w) = IsWrite w
IsOp (Truncate t) = IsTruncate t
IsOp (Link l) = IsNameAt (linked_name l)
IsOp (Rename r) = IsRename r
IsOp (Unlink u) = IsNameAt (unlinked_name u)
IsOp (Take t) = IsTake t
IsOp (Drop d) = IsDrop d

-- a write can be spelled where it has 1 to 65,536 bytes; another operation can in any case
abbrev pub CanBeSpelled : Op → Type 0
CanBeSpelled (Write w) = HasLength w
CanBeSpelled _ = Unit {0}

-- the number of its kind, and its fields
abbrev pub op_bytes : Op → List ℕ
op_bytes (Create c) = 1 ∷ create_bytes c
op_bytes (Write w) = 2 ∷ write_bytes w
op_bytes (Truncate t) = 3 ∷ truncate_bytes t
op_bytes (Link l) = 4 ∷ name_at_bytes (linked_name l)
op_bytes (Rename r) = 5 ∷ rename_bytes r
op_bytes (Unlink u) = 6 ∷ name_at_bytes (unlinked_name u)
op_bytes (Take t) = 7 ∷ take_bytes t
op_bytes (Drop d) = 8 ∷ drop_bytes d

-- the number of each kind of operation, and its fields
abbrev pub op_kinds : List (ℕ × Format Op)
op_kinds =
    (1, create_fields)
    ∷ (2, write_fields)
    ∷ (3, truncate_fields)
    ∷ (4, link_fields)
    ∷ (5, rename_fields)
    ∷ (6, unlink_fields)
    ∷ (7, take_fields)
    ∷ (8, drop_fields)
    ∷ []

-- the number of a kind of operation, and its fields
unfoldable pub op_format : Format Op
op_format = one_of op_kinds
