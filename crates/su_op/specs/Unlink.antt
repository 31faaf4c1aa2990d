-- An unlink by user a: the name leaves its directory, and with the last link the inode and a group
-- file's pointer go.
use Rattle.std.specs.Prelude.{ℕ, ◌-◌, List, [], ◌∷◌, ◌++◌, None, nat_eq, nat_le, if◌then◌else◌}
use Rattle.su_bytes.specs.declared.file_ids.FileId.{FileId}
use Rattle.su_bytes.specs.declared.refusals.Refusal.TheVariants.{NotMember, NoFile, WrongKind, NotHolder, NoName, NotEmpty}
use Rattle.su_bytes.specs.Membership.{Membership}
use Rattle.su_bytes.specs.Place.{Place}
use Rattle.su_table.specs.Tree.{Tree}
use Rattle.su_table.specs.Query.{body, is_dir_at, leads_to_at, is_bare_at, links_at}
use Rattle.su_node.specs.InodeChange.{InodeChange.Named, InodeChange.Linked, InodeChange.Gone}
use Rattle.su_table.specs.Edit.{Edit, Edit.Inodes}
use Rattle.su_op.specs.declared.unlink.Unlink.{Unlink}
use Rattle.su_op.specs.Area.{kind_cell, links_cell, name_cell, all_cells}
use Rattle.su_op.specs.Rule.{Plan, HasRow, Rule, Rule.Accept, Rule.Demand, Rule.Find, may_touch, group_of, pointer_edits, pointer_areas, file_areas}

-- of two or more links one goes
abbrev pub fewer_links : ℕ → Place → List Edit
fewer_links links f = Inodes f (Linked (links - 1)) ∷ []

-- with the last link a group file's pointer goes, and the inode
abbrev pub file_goes : FileId → Place → List Edit
file_goes file f = pointer_edits file None ++ Inodes f Gone ∷ []

-- of a file with that many links
abbrev pub link_goes : ℕ → FileId → Place → List Edit
link_goes links file f = if nat_le 2 links then fewer_links links f else file_goes file f

-- for a directory at place d, and a file with that many links at place f
abbrev pub unlink_plan : ℕ → Unlink → Place → Place → Plan
unlink_plan links u d f = record {
  reads = file_areas u.dir d ++ file_areas u.file f;
  edits = Inodes d (Named u.name None) ∷ link_goes links u.file f;
}

-- the checks in their order
abbrev pub unlink_rule : Membership → Tree → ℕ → Unlink → Rule
unlink_rule ro T a u =
    Demand (may_touch ro a u.dir) (NotMember (group_of u.dir))
    (Demand (may_touch ro a u.file) (NotMember (group_of u.file))
    (Find (body T u.dir) (NoFile u.dir) (λ d.
    Find (body T u.file) (NoFile u.file) (λ f.
    Demand (is_dir_at T d) (WrongKind u.dir)
    (Demand (nat_eq d.0 a) (NotHolder d.0)
    (Demand (nat_eq f.0 a) (NotHolder f.0)
    (Demand (leads_to_at T d u.name u.file) NoName
    (Demand (is_bare_at T f) NotEmpty
    (Accept (unlink_plan (links_at T f) u d f))))))))))

-- reads kind and pointer of the directory and of the file; writes the name at the directory, and of
-- the file the links where there are two or more, else the whole inode and its pointer
abbrev pub UnlinkRow : Unlink → Type 0
UnlinkRow u = (links : ℕ) (d f : Place) → HasRow (unlink_plan links u d f)
    (kind_cell d ∷ pointer_areas u.dir ++ kind_cell f ∷ pointer_areas u.file)
    (name_cell u.name d
    ∷ (if nat_le 2 links then links_cell f ∷ [] else pointer_areas u.file ++ all_cells f ∷ []))
