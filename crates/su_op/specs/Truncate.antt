-- A truncate by user a: a file is cut to a size, or has zeros behind it up to that size.
use Rattle.std.specs.Prelude.{ℕ, [], ◌∷◌, min, max, nat_eq, nat_le, if◌then◌else◌}
use Rattle.su_bytes.specs.declared.refusals.Refusal.TheVariants.{NotMember, NoFile, WrongKind, NotHolder, TooBig}
use Rattle.su_bytes.specs.declared.formats.Format.{Format}
use Rattle.su_bytes.specs.Membership.{Membership}
use Rattle.su_node.specs.InodeChange.{InodeChange.Resized}
use Rattle.su_bytes.specs.Place.{Place}
use Rattle.su_table.specs.Tree.{Tree}
use Rattle.su_table.specs.Query.{body, is_file_at, size_at}
use Rattle.su_table.specs.Edit.{Edit.Inodes}
use Rattle.su_op.specs.Area.{blocks_between, kind_cell, size_cell, block_cells}
use Rattle.su_op.specs.declared.truncate.Truncate.{Truncate}
use Rattle.su_op.specs.Limits.{largest_file}
use Rattle.su_op.specs.Rule.{Plan, HasRow, Rule, Rule.Accept, Rule.Demand, Rule.Find, may_touch, group_of, pointer_areas, file_areas}

-- of a file of that size at that place
abbrev pub truncate_plan : ℕ → Truncate → Place → Plan
truncate_plan size t f = record {
  reads = size_cell f ∷ file_areas t.file f;
  edits = Inodes f (Resized size t.size) ∷ [];
}

-- the checks in their order, of a truncate in that format
abbrev pub truncate_rule : Membership → Tree → ℕ → Format → Truncate → Rule
truncate_rule ro T a format t =
    Demand (may_touch ro a t.file) (NotMember (group_of t.file))
    (Find (body T t.file) (NoFile t.file) (λ f.
    Demand (is_file_at T f) (WrongKind t.file)
    (Demand (nat_eq f.0 a) (NotHolder f.0)
    (Demand (nat_le t.size (largest_file format)) TooBig
    (Accept (truncate_plan (size_at T f) t f))))))

-- reads the file's size, kind and pointer; writes the size, and the blocks between the old end and
-- the new one
abbrev pub TruncateRow : Truncate → Type 0
TruncateRow t = (size : ℕ) (f : Place) → HasRow (truncate_plan size t f)
    (size_cell f ∷ kind_cell f ∷ pointer_areas t.file)
    (if nat_eq size t.size then []
    else size_cell f ∷ block_cells (blocks_between (min size t.size) (max size t.size)) f ∷ [])
