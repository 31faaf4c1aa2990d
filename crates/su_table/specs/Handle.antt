-- The i-table of a principal, and its i-handle: the digest that stands for all that the principal has. (SUNDR, section 3:
-- an i-handle is the digest of an i-table.)
use Rattle.std.specs.Prelude.{ℕ, List, map, nat_eq}
use Rattle.std.specs.List.{filter}
use Rattle.std.specs.FinMap.{entries}
use Rattle.su_bytes.specs.declared.principals.Principal.{Principal}
use Rattle.su_bytes.specs.declared.principals.Principal.TheVariants.{User, Group}
use Rattle.su_tree.specs.Digest.{digest}
use Rattle.su_tree.specs.Number.{numbers}
use Rattle.su_tree.specs.Value.{place_bytes}
use Rattle.su_node.specs.Digest.{inode_digest}
use Rattle.su_bytes.specs.Place.{Place}
use Rattle.su_table.specs.Tree.{Tree}

-- of entries at places, those of one user or group, by their numbers, each with a value made of it
abbrev pub pairs_of : {X W : Type 0} → (X → W) → ℕ → List (Place × X) → List (ℕ × W)
pairs_of value principal es = map (λ e. (e.0.1, value e.1)) (filter (λ e. nat_eq e.0.0 principal) es)

-- a user's i-table: from i-numbers to the digests of inodes
unfoldable pub user_table : Tree → ℕ → List (ℕ × List ℕ)
user_table T u = pairs_of inode_digest u (entries T.inodes)

-- a group's i-table: from the numbers of its files to the places of their bodies
unfoldable pub group_table : Tree → ℕ → List (ℕ × Place)
group_table T g = pairs_of (λ place. place) g (entries T.pointers)

-- the i-handle of a principal; where nothing is at a principal, that of the empty table
abbrev pub handle : Tree → Principal → List ℕ
handle T (User u) = digest (numbers (λ d. d)) (user_table T u)
handle T (Group g) = digest (numbers place_bytes) (group_table T g)
