-- A take by user a: the inode of a group file that another user holds is copied to (a, body), and
-- the group's pointer points there.
use Rattle.std.specs.Prelude.{ℕ, Bool, true, false, not, ◌&&◌, ◌∷◌, Option, Some, None, nat_eq}
use Rattle.std.specs.FinMap.{get}
use Rattle.su_bytes.specs.declared.file_ids.FileId.{FileId}
use Rattle.su_bytes.specs.declared.file_ids.FileId.TheVariants.{User, Group}
use Rattle.su_bytes.specs.declared.refusals.Refusal.TheVariants.{BadNumber, NotMember, NoFile, Held}
use Rattle.su_bytes.specs.Membership.{Membership}
use Rattle.su_node.specs.Inode.{Inode}
use Rattle.su_node.specs.InodeChange.{InodeChange, InodeChange.Copied, InodeChange.Gone}
use Rattle.su_bytes.specs.Place.{Place}
use Rattle.su_table.specs.Tree.{Tree}
use Rattle.su_table.specs.Query.{body, is_free_at}
use Rattle.su_table.specs.Edit.{Edit.Inodes}
use Rattle.su_op.specs.Area.{kind_cell, all_cells}
use Rattle.su_op.specs.declared.take.Take.{Take}
use Rattle.su_op.specs.Rule.{Plan, HasRow, Rule, Rule.Accept, Rule.Demand, Rule.Find, may_touch, group_of, pointer_edits, pointer_areas, file_areas}

-- the file is a group's
abbrev pub is_group_file : FileId → Bool
is_group_file (User u i) = false
is_group_file (Group g k) = true

-- the whole inode stands here as well; where there is none, none stands here
abbrev pub copy_of : Option Inode → InodeChange
copy_of (Some i) = Copied i
copy_of None = Gone

-- of what stands at the file's place f, which stays there
abbrev pub take_plan : Option Inode → ℕ → Take → Place → Plan
take_plan o a t f = record {
  reads = all_cells f ∷ file_areas t.file f;
  edits = Inodes (a, t.body) (copy_of o) ∷ pointer_edits t.file (Some (a, t.body));
}

-- the checks in their order
abbrev pub take_rule : Membership → Tree → ℕ → Take → Rule
take_rule ro T a t =
    Demand (is_group_file t.file) BadNumber
    (Demand (may_touch ro a t.file) (NotMember (group_of t.file))
    (Find (body T t.file) (NoFile t.file) (λ f.
    Demand (not (nat_eq f.0 a) && is_free_at T (a, t.body)) Held
    (Accept (take_plan (get T.inodes f) a t f)))))

-- reads kind and pointer of the file, and all of its old body; writes all of the new body, and the
-- pointer
abbrev pub TakeRow : Take → Type 0
TakeRow t = (o : Option Inode) (a : ℕ) (f : Place) → HasRow (take_plan o a t f)
    (all_cells f ∷ kind_cell f ∷ pointer_areas t.file)
    (all_cells (a, t.body) ∷ pointer_areas t.file)
