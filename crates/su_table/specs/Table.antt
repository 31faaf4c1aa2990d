-- What an edit does to the i-tables of principals.
use Rattle.std.specs.Prelude.{◌≡◌, ℕ, not, cond, List, nat_eq, Option, Some, None}
use Rattle.std.specs.Option.{option_map}
use Rattle.std.specs.Ordering.{nat_cmp, eq_by_cmp}
use Rattle.std.specs.FinMap.{get}
use Rattle.std.specs.FinMap.Entries.{put, where_key}
use Rattle.su_bytes.specs.Place.{Place, GroupFile}
use Rattle.su_node.specs.Digest.{inode_digest}
use Rattle.su_node.specs.InodeChange.{InodeChange, inode_after}
use Rattle.su_table.specs.Edit.{Edit.Inodes, Edit.Pointers, edit}
use Rattle.su_table.specs.Handle.{user_table, group_table}
use Rattle.su_table.specs.Tree.{Tree}

-- pairs with a value at a number, or without one there
abbrev pub with_pair : {W : Type 0} → ℕ → Option W → List (ℕ × W) → List (ℕ × W)
with_pair i (Some w) ps = put nat_cmp i w ps
with_pair i None ps = where_key nat_cmp (λ k. not (eq_by_cmp nat_cmp i k)) ps

-- An edit of an inode changes its user's table at its number, to the digest of what stands there
-- then, and no other table; an edit of a pointer its group's table, and no other.
pub record ChangesOneTable : Type 0 where
  pub of_user : (T : Tree) (p : Place) (ch : InodeChange) (u : ℕ)
      → user_table (edit T (Inodes p ch)) u
      ≡ cond (nat_eq p.0 u)
      (with_pair p.1 (option_map inode_digest (inode_after ch (get T.inodes p)))
      (user_table T u))
      (user_table T u)
  pub of_group : (T : Tree) (f : GroupFile) (v : Option Place) (g : ℕ)
      → group_table (edit T (Pointers f v)) g
      ≡ cond (nat_eq f.0 g) (with_pair f.1 v (group_table T g)) (group_table T g)
  pub no_group : (T : Tree) (p : Place) (ch : InodeChange) (g : ℕ)
      → group_table (edit T (Inodes p ch)) g ≡ group_table T g
  pub no_user : (T : Tree) (f : GroupFile) (v : Option Place) (u : ℕ)
      → user_table (edit T (Pointers f v)) u ≡ user_table T u
