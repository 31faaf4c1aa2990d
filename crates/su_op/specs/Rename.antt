-- A rename by user a: a file gets another name, in the directory that has it or in another one, and
-- loses the old name.
use Rattle.std.specs.Prelude.{ℕ, Bool, false, not, ◌||◌, List, [], ◌∷◌, ◌++◌, Option, Some, None, is_some, nat_eq, if◌then◌else◌}
use Rattle.su_bytes.specs.declared.file_ids.FileId.{FileId}
use Rattle.su_bytes.specs.declared.refusals.Refusal.TheVariants.{NotMember, NoFile, WrongKind, NotHolder, NoName, Exists, DirMove}
use Rattle.su_bytes.specs.Membership.{Membership}
use Rattle.su_node.specs.InodeChange.{InodeChange.Named}
use Rattle.su_bytes.specs.Place.{Place, file_eq}
use Rattle.su_table.specs.Tree.{Tree}
use Rattle.su_table.specs.Query.{body, is_dir_at, leads_to_at, is_name_free_at}
use Rattle.su_table.specs.Edit.{Edit.Inodes}
use Rattle.su_op.specs.declared.areas.Area.{Area}
use Rattle.su_op.specs.declared.rename.Rename.{Rename}
use Rattle.su_op.specs.Area.{kind_cell, name_cell}
use Rattle.su_op.specs.Rule.{Plan, HasRow, Rule, Rule.Accept, Rule.Demand, Rule.Find, may_touch, group_of, pointer_areas, file_areas}

-- the file stays in its directory
abbrev pub stays : Rename → Bool
stays r = file_eq r.from_ r.to_

-- where the file stands that goes to another directory; a file that stays is not looked for
abbrev pub moved : Tree → Rename → Option Place
moved T r = if stays r then None else body T r.file

-- what is read of the file that goes to another directory
abbrev pub moved_areas : FileId → Option Place → List Area
moved_areas file None = []
moved_areas file (Some f) = file_areas file f

-- what goes to another directory is a directory itself
abbrev pub moves_directory : Tree → Option Place → Bool
moves_directory T None = false
moves_directory T (Some f) = is_dir_at T f

-- the directory at place t gets the new name, and the one at place d loses the old one
abbrev pub rename_plan : Option Place → Rename → Place → Place → Plan
rename_plan moved r d t = record {
  reads = file_areas r.from_ d ++ file_areas r.to_ t ++ moved_areas r.file moved;
  edits = Inodes t (Named r.new_ (Some r.file)) ∷ Inodes d (Named r.old_ None) ∷ [];
}

-- what is asked of the directories at places d and t, and of the file that moves
abbrev pub rename_rule_at : Tree → ℕ → Rename → Option Place → Place → Place → Rule
rename_rule_at T a r moved d t =
    Demand (is_dir_at T d) (WrongKind r.from_)
    (Demand (is_dir_at T t) (WrongKind r.to_)
    (Demand (nat_eq d.0 a) (NotHolder d.0)
    (Demand (nat_eq t.0 a) (NotHolder t.0)
    (Demand (leads_to_at T d r.old_ r.file) NoName
    (Demand (is_name_free_at T t r.new_) Exists
    (Demand (not (moves_directory T moved)) DirMove
    (Accept (rename_plan moved r d t))))))))

-- the checks in their order
abbrev pub rename_rule : Membership → Tree → ℕ → Rename → Rule
rename_rule ro T a r =
    Demand (may_touch ro a r.from_) (NotMember (group_of r.from_))
    (Demand (may_touch ro a r.to_) (NotMember (group_of r.to_))
    (Find (body T r.from_) (NoFile r.from_) (λ d.
    (Find (body T r.to_) (NoFile r.to_) (λ t.
    (Demand (stays r || is_some (moved T r)) (NoFile r.file)
    (rename_rule_at T a r (moved T r) d t)))))))

-- reads kind and pointer of both directories, and of the file where it goes from one to the other
-- (then `moved` is its place); writes the new name at the directory that gets it, and the old name
-- at the directory that loses it
abbrev pub RenameRow : Rename → Type 0
RenameRow r = (moved : Option Place) (d t : Place) → HasRow (rename_plan moved r d t)
    (kind_cell d ∷ pointer_areas r.from_
    ++ kind_cell t ∷ pointer_areas r.to_
    ++ moved_areas r.file moved)
    (name_cell r.new_ t ∷ name_cell r.old_ d ∷ [])
