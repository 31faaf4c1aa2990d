-- A create by user a: a new empty file or directory at (a, body), for which a directory gets a
-- name.
use Rattle.std.specs.Prelude.{ℕ, Bool, true, ◌&&◌, ◌∷◌, Some, nat_eq}
use Rattle.su_bytes.specs.declared.file_ids.FileId.{FileId}
use Rattle.su_bytes.specs.declared.file_ids.FileId.TheVariants.{User, Group}
use Rattle.su_bytes.specs.declared.refusals.Refusal.TheVariants.{BadNumber, NotMember, NoFile, WrongKind, NotHolder, Held, Exists}
use Rattle.su_bytes.specs.Membership.{Membership}
use Rattle.su_bytes.specs.Place.{Place}
use Rattle.su_table.specs.Tree.{Tree}
use Rattle.su_table.specs.Query.{body, is_dir_at, is_free_at, is_name_free_at, is_pointer_free}
use Rattle.su_node.specs.InodeChange.{InodeChange.Made, InodeChange.Named}
use Rattle.su_table.specs.Edit.{Edit.Inodes}
use Rattle.su_op.specs.declared.create.Create.{Create}
use Rattle.su_op.specs.Area.{kind_cell, links_cell, size_cell, name_cell}
use Rattle.su_op.specs.Rule.{Plan, HasRow, Rule, Rule.Accept, Rule.Demand, Rule.Find, may_touch, group_of, pointer_edits, pointer_areas, file_areas}

-- a user's file stands at its own place, and a group file at any number of its maker
abbrev pub is_own_number : ℕ → ℕ → FileId → Bool
is_own_number a n (User u i) = nat_eq u a && nat_eq i n
is_own_number a n (Group g k) = true

-- for a directory at place d
abbrev pub create_plan : ℕ → Create → Place → Plan
create_plan a c d = record {
  reads = file_areas c.dir d;
  edits = Inodes d (Named c.name (Some c.file))
      ∷ Inodes (a, c.body) (Made c.file c.kind)
      ∷ pointer_edits c.file (Some (a, c.body));
}

-- the checks in their order
abbrev pub create_rule : Membership → Tree → ℕ → Create → Rule
create_rule ro T a c =
    Demand (is_own_number a c.body c.file) BadNumber
    (Demand (may_touch ro a c.dir) (NotMember (group_of c.dir))
    (Demand (may_touch ro a c.file) (NotMember (group_of c.file))
    (Find (body T c.dir) (NoFile c.dir) (λ d.
    Demand (is_dir_at T d) (WrongKind c.dir)
    (Demand (nat_eq d.0 a) (NotHolder d.0)
    (Demand (is_pointer_free T c.file && is_free_at T (a, c.body)) Held
    (Demand (is_name_free_at T d c.name) Exists
    (Accept (create_plan a c d)))))))))

-- reads the directory's kind and pointer; writes the name at the directory, kind, links and size of
-- the new inode, and the new file's pointer
abbrev pub CreateRow : Create → Type 0
CreateRow c = (a : ℕ) (d : Place) → HasRow (create_plan a c d)
    (kind_cell d ∷ pointer_areas c.dir)
    (name_cell c.name d
    ∷ kind_cell (a, c.body) ∷ links_cell (a, c.body) ∷ size_cell (a, c.body)
    ∷ pointer_areas c.file)
