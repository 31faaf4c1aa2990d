-- A link by user a: a directory gets a further name for a file.
use Rattle.std.specs.Prelude.{ℕ, ◌+◌, [], ◌∷◌, ◌++◌, Some, nat_eq, nat_lt}
use Rattle.su_bytes.specs.declared.refusals.Refusal.TheVariants.{NotMember, NoFile, WrongKind, NotHolder, Exists, TooManyLinks}
use Rattle.su_bytes.specs.Membership.{Membership}
use Rattle.su_node.specs.InodeChange.{InodeChange.Named, InodeChange.Linked}
use Rattle.su_bytes.specs.Place.{Place}
use Rattle.su_table.specs.Tree.{Tree}
use Rattle.su_table.specs.Query.{body, is_dir_at, is_file_at, is_name_free_at, links_at}
use Rattle.su_table.specs.Edit.{Edit.Inodes}
use Rattle.su_op.specs.declared.link.Link.{Link}
use Rattle.su_op.specs.Area.{kind_cell, links_cell, name_cell}
use Rattle.su_op.specs.Limits.{most_links}
use Rattle.su_op.specs.Rule.{Plan, HasRow, Rule, Rule.Accept, Rule.Demand, Rule.Find, may_touch, group_of, pointer_areas, file_areas}

-- of a file with that many links, at place f: the directory at place d gets the name, and the file
-- has one link more
abbrev pub link_plan : ℕ → Link → Place → Place → Plan
link_plan links l d f = record {
  reads = file_areas l.dir d ++ file_areas l.file f;
  edits = Inodes d (Named l.name (Some l.file)) ∷ Inodes f (Linked (links + 1)) ∷ [];
}

-- the checks in their order
abbrev pub link_rule : Membership → Tree → ℕ → Link → Rule
link_rule ro T a l =
    Demand (may_touch ro a l.dir) (NotMember (group_of l.dir))
    (Demand (may_touch ro a l.file) (NotMember (group_of l.file))
    (Find (body T l.dir) (NoFile l.dir) (λ d.
    (Find (body T l.file) (NoFile l.file) (λ f.
    Demand (is_dir_at T d) (WrongKind l.dir)
    (Demand (is_file_at T f) (WrongKind l.file)
    (Demand (nat_eq d.0 a) (NotHolder d.0)
    (Demand (nat_eq f.0 a) (NotHolder f.0)
    (Demand (is_name_free_at T d l.name) Exists
    (Demand (nat_lt (links_at T f) most_links) TooManyLinks
    (Accept (link_plan (links_at T f) l d f))))))))))))

-- reads kind and pointer of the directory and of the file; writes the name at the directory, and
-- the file's links
abbrev pub LinkRow : Link → Type 0
LinkRow l = (links : ℕ) (d f : Place) → HasRow (link_plan links l d f)
    (kind_cell d ∷ pointer_areas l.dir ++ kind_cell f ∷ pointer_areas l.file)
    (name_cell l.name d ∷ links_cell f ∷ [])
