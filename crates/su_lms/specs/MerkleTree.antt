-- The tree over the one-time public keys (RFC 8554, Section 5.3). Node 1 is the root, the children of node r are 2r and
-- 2r + 1, and the leaves of a tree of height h are the nodes 2^h to 2^(h + 1) - 1.
use Rattle.std.specs.Prelude.{ℕ, zero, suc, ◌+◌, ◌*◌, ◌-◌, ◌/◌, ◌%◌, ◌^◌, List, ◌++◌, nat_eq, if◌then◌else◌}
use Rattle.sha2.specs.Sha256.{sha256}
use Rattle.su_lms.specs.Strings.{u16str, u32str}

-- T[r] of a leaf, from its one-time public key; D_LEAF is 0x8282 (Section 5.3)
unfoldable pub leaf_value : List ℕ → ℕ → List ℕ → List ℕ
leaf_value id r key = sha256 (id ++ u32str r ++ u16str 0x8282 ++ key)

-- T[r] of an inner node, from T[2r] and T[2r + 1]; D_INTR is 0x8383 (Section 5.3)
unfoldable pub inner_value : List ℕ → ℕ → List ℕ → List ℕ → List ℕ
inner_value id r left right = sha256 (id ++ u32str r ++ u16str 0x8383 ++ left ++ right)

-- T[r] of the node r that stands `level` levels above the leaves (Section 5.3)
unfoldable pub node_value : List ℕ → (ℕ → List ℕ) → ℕ → ℕ → List ℕ
node_value id leaf zero r = leaf r
node_value id leaf (suc level) r = inner_value id r (node_value id leaf level (2 * r)) (node_value id leaf level (2 * r + 1))

-- the other child of the parent of a node (Section 5.4.1)
abbrev pub sibling_of : ℕ → ℕ
sibling_of r = if nat_eq (r % 2) 1 then r - 1 else r + 1

-- the parent's value: at an odd node the sibling stands left, at an even node right (Section 5.4.2)
unfoldable pub parent_value : List ℕ → ℕ → List ℕ → List ℕ → List ℕ
parent_value id r sibling value = if nat_eq (r % 2) 1 then inner_value id (r / 2) sibling value else inner_value id (r / 2) value sibling

-- what the value of leaf r leads to in a number of levels, by the path of siblings (Section 5.4.2)
unfoldable pub climb : List ℕ → (ℕ → List ℕ) → ℕ → List ℕ → ℕ → List ℕ
climb id path r value zero = value
climb id path r value (suc level) = parent_value id (r / 2 ^ level) (path level) (climb id path r value level)
