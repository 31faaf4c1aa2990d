-- A write by user a: the bytes of a file from an offset on are these, and a gap before them is
-- zeros.
use Rattle.std.specs.Prelude.{ℕ, ◌+◌, ◌&&◌, [], ◌∷◌, length, min, nat_eq, nat_le, if◌then◌else◌}
use Rattle.su_bytes.specs.declared.refusals.Refusal.TheVariants.{BadNumber, NotMember, NoFile, WrongKind, NotHolder, TooBig}
use Rattle.su_bytes.specs.declared.formats.Format.{Format}
use Rattle.su_bytes.specs.Membership.{Membership}
use Rattle.su_node.specs.InodeChange.{InodeChange.Written}
use Rattle.su_bytes.specs.Place.{Place}
use Rattle.su_table.specs.Tree.{Tree}
use Rattle.su_table.specs.Query.{body, is_file_at, size_at}
use Rattle.su_table.specs.Edit.{Edit.Inodes}
use Rattle.su_op.specs.Area.{blocks_between, kind_cell, size_cell, block_cells}
use Rattle.su_op.specs.Writing.{Writing}
use Rattle.su_op.specs.Limits.{largest_write, largest_file}
use Rattle.su_op.specs.Rule.{Plan, HasRow, Rule, Rule.Accept, Rule.Demand, Rule.Find, may_touch, group_of, pointer_areas, file_areas}

-- of a file of that size at that place
abbrev pub write_plan : ℕ → Writing → Place → Plan
write_plan size w f = record {
  reads = size_cell f ∷ file_areas w.file f;
  edits = Inodes f (Written size w.off w.bytes) ∷ [];
}

-- the checks in their order, of a write in that format
abbrev pub write_rule : Membership → Tree → ℕ → Format → Writing → Rule
write_rule ro T a format w =
    Demand (nat_le 1 (length w.bytes) && nat_le (length w.bytes) largest_write) BadNumber
    (Demand (may_touch ro a w.file) (NotMember (group_of w.file))
    (Find (body T w.file) (NoFile w.file) (λ f.
    Demand (is_file_at T f) (WrongKind w.file)
    (Demand (nat_eq f.0 a) (NotHolder f.0)
    (Demand (nat_le (w.off + length w.bytes) (largest_file format)) TooBig
    (Accept (write_plan (size_at T f) w f)))))))

-- reads the file's size, kind and pointer; writes the blocks that it touches, and where the file
-- grows its size, and the blocks from the old end on
abbrev pub WriteRow : Writing → Type 0
WriteRow w = (size : ℕ) (f : Place) → let end = w.off + length w.bytes in
    HasRow (write_plan size w f)
    (size_cell f ∷ kind_cell f ∷ pointer_areas w.file)
    (if nat_le end size then block_cells (blocks_between w.off end) f ∷ []
    else size_cell f ∷ block_cells (blocks_between (min w.off size) end) f ∷ [])
