-- What a forest of parts stands for, and what of it is loaded.
use Rattle.std.specs.Prelude.{◌≡◌, ◌≢◌, ℕ, Bool, true, false, IsSome, IfSome, Option, Some, None, slice_get}
use Rattle.std.specs.Option.{option_and_then}
use Rattle.std.specs.FinMap.{get}
use Rattle.su_bytes.specs.Principal.{is_user, is_group}
use Rattle.su_bytes.specs.Place.{Place, GroupFile}
use Rattle.su_node.specs.Name.{Name}
use Rattle.su_table.specs.Tree.{Tree}
use Rattle.su_part.specs.declared.inodes.PartInode.{PartInode}
use Rattle.su_part.specs.declared.users.UserPart.{UserPart}
use Rattle.su_part.specs.Part.{StandsUser, HasInode, HasNameAt as HasNameOf, at_number}
use Rattle.su_part.specs.Seen.{loaded_inodes}
use Rattle.su_group_part.specs.declared.groups.GroupPart.{GroupPart}
use Rattle.su_group_part.specs.Part.{StandsGroup, HasPointer}
use Rattle.su_part_forest.specs.declared.forests.PartForest.{PartForest}

-- the part of a user, of a group
abbrev pub user_part : ℕ → PartForest → Option UserPart
user_part u f = slice_get f.users.items u

abbrev pub group_part : ℕ → PartForest → Option GroupPart
group_part g f = slice_get f.groups.items g

-- the part is there just where there can be one, and then it meets P
abbrev pub IsPart : {X : Type 0} → (X → Type 0) → Bool → Option X → Type 0
IsPart P true None = ⊥
IsPart P true (Some p) = P p
IsPart P false o = o ≡ None

-- The forest stands for the tree: the part of each user and of each group that there can be is
-- there and stands for what the user or the group has, and no other has anything.
pub record Stands (f : PartForest) (T : Tree) : Type 0 where
  pub users : (u : ℕ) → IsPart (λ p. StandsUser u p T) (is_user u) (user_part u f)
  pub groups : (g : ℕ) → IsPart (λ p. StandsGroup g p T) (is_group g) (group_part g f)
  pub no_user : (u n : ℕ) → is_user u ≡ false → get T.inodes (u, n) ≡ None
  pub no_group : (g n : ℕ) → is_group g ≡ false → get T.pointers (g, n) ≡ None

-- it stands for some tree
abbrev pub IsSound : PartForest → Type 0
IsSound f = (T : Tree) × Stands f T

-- the inode that is loaded at a place
abbrev pub loaded_inode : Place → PartForest → Option PartInode
loaded_inode p f = option_and_then (λ q. at_number (loaded_inodes q) p.1) (user_part p.0 f)

-- where T has an inode at the place, it is loaded
abbrev pub IsThereAt : Place → Tree → PartForest → Type 0
IsThereAt p T f = get T.inodes p ≢ None → IsSome (loaded_inode p f)

-- the place's path is loaded, and the inode there, if one stands there
abbrev pub HasInodeAt : Place → PartForest → Type 0
HasInodeAt p f = IfSome (user_part p.0 f) (HasInode p.1)

-- so, and the path of a name of it
abbrev pub HasNameAt : Place → Name → PartForest → Type 0
HasNameAt p x f = IfSome (user_part p.0 f) (HasNameOf p.1 x)

-- the path of a group file's pointer is loaded
abbrev pub HasPointerAt : GroupFile → PartForest → Type 0
HasPointerAt g f = IfSome (group_part g.0 f) (HasPointer g.1)
