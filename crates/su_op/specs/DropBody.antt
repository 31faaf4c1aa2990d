-- A drop by user a: the inode at (a, body) goes, which was made for a group file, and to which no
-- file id leads any more.
use Rattle.std.specs.Prelude.{ℕ, Bool, false, not, [], ◌∷◌, Option, Some, None, if◌then◌else◌}
use Rattle.su_bytes.specs.declared.file_ids.FileId.TheVariants.{User, Group}
use Rattle.su_bytes.specs.declared.refusals.Refusal.TheVariants.{NoFile, Held}
use Rattle.su_bytes.specs.Place.{Place, GroupFile, place_eq}
use Rattle.su_node.specs.Field.{Field.KindOf, Value, Value.AKind, Value.APlace}
use Rattle.su_node.specs.InodeChange.{InodeChange.Gone}
use Rattle.su_table.specs.Tree.{Tree}
use Rattle.su_table.specs.Cell.{Cell.At, Cell.Pointer, val}
use Rattle.su_table.specs.Query.{is_free_at}
use Rattle.su_table.specs.Edit.{Edit.Inodes}
use Rattle.su_op.specs.declared.areas.Area.TheVariants.{Pointer as PointerArea}
use Rattle.su_op.specs.declared.drop_body.DropBody.{DropBody}
use Rattle.su_op.specs.Area.{all_cells}
use Rattle.su_op.specs.Rule.{Plan, HasRow, Rule, Rule.Accept, Rule.Demand, Rule.Find}

-- ---- bodies to which no file id leads

-- the group file that what has this kind was made for, if it was made for one
abbrev pub group_home : Value → Option GroupFile
group_home (AKind kind (Group g k)) = Some (g, k)
group_home _ = None

-- the pointer leads to p
abbrev pub leads_here : Value → Place → Bool
leads_here (APlace q) p = place_eq q p
leads_here _ p = false

-- of what stands at p, and was made for that group file: the file, unless its pointer leads there
abbrev pub unless_led : Tree → Place → Option GroupFile → Option GroupFile
unless_led T p None = None
unless_led T p (Some home) = if leads_here (val T (Pointer home)) p then None else Some home

-- the group file that the body at p was made for, where its pointer is gone or leads elsewhere
abbrev pub stale_home : Tree → Place → Option GroupFile
stale_home T p = unless_led T p (group_home (val T (At p KindOf)))

-- ---- the operation

-- of a body that was made for that group file
abbrev pub drop_plan : ℕ → DropBody → GroupFile → Plan
drop_plan a d home = record {
  reads = PointerArea home ∷ [];
  edits = Inodes (a, d.body) Gone ∷ [];
}

-- the checks in their order
abbrev pub drop_rule : Tree → ℕ → DropBody → Rule
drop_rule T a d =
    Demand (not (is_free_at T (a, d.body))) (NoFile (User a d.body))
    (Find (stale_home T (a, d.body)) Held (λ home.
    Accept (drop_plan a d home)))

-- reads the pointer of the group file that the body was made for; writes all of the body
abbrev pub DropRow : DropBody → Type 0
DropRow d = (a : ℕ) (home : GroupFile) → HasRow (drop_plan a d home)
    (PointerArea home ∷ [])
    (all_cells (a, d.body) ∷ [])
