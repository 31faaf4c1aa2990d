-- The tree in memory: made from its leaves, and read along a path.
use Rattle.std.proofs.Common.{◌≡◌, ℕ, zero, suc, ◌+◌, ◌-◌, ◌*◌, ◌/◌, ◌%◌, ◌^◌, ◌≤◌, ◌<◌, List, [], length, get_or, inl, inr, ap, sym, ◌∙◌, arith}
use Rattle.std.proofs.lemmas.Bool.{cases_eq}
use Rattle.std.proofs.lemmas.List.{get_or_read}
use Rattle.std.proofs.lemmas.Nat.{pow_pos, pow-add, le-div, div_below}
use Rattle.std.proofs.Math.Nat.{two-pow-succ}
use Rattle.std.proofs.Math.Pow.{pow_mono}
use Rattle.su_lms.specs.ParameterSets.{height_of}
use Rattle.su_lms.specs.MerkleTree.{inner_value, node_value, sibling_of}
use Rattle.su_lms.specs.PrivateKey.{PrivateKey, leaf_count, leaf_at, node_at, path_at}
use Rattle.su_lms.specs.NodeTable.{AreLeaves, IsNodeTable}

-- a level has half as many nodes as the one below it
pub level_below : (h level : ℕ) → suc level ≤ h → 2 ^ (h - level) ≡ 2 * 2 ^ (h - suc level)
level_below h level low =
    let next : h - level ≡ suc (h - suc level) = omega arith in
    ap (λ n. 2 ^ n) next ∙ two-pow-succ (h - suc level) ∙ omega arith

-- where the leaves stand, and each inner node comes from its children, each node stands at its number
pub table_level : (key : PrivateKey) (nodes : List (List ℕ)) → ((r : ℕ) → leaf_count key ≤ r → r < 2 * leaf_count key → get_or nodes r [] ≡ leaf_at key r) → ((r : ℕ) → 1 ≤ r → r < leaf_count key → get_or nodes r [] ≡ inner_value key.id r (get_or nodes (2 * r) []) (get_or nodes (2 * r + 1) [])) → (level r : ℕ) → level ≤ height_of key.lms → 2 ^ (height_of key.lms - level) ≤ r → r < 2 * 2 ^ (height_of key.lms - level) → get_or nodes r [] ≡ node_at key level r
unfolding node_value
table_level key nodes leaves inner zero r low from to =
    let all : 2 ^ (height_of key.lms - 0) ≡ leaf_count key = ap (λ n. 2 ^ n) (omega arith) in
    leaves r (omega arith) (omega arith)
table_level key nodes leaves inner (suc level) r low from to =
    let half : 2 ^ (height_of key.lms - level) ≡ 2 * 2 ^ (height_of key.lms - suc level) = level_below (height_of key.lms) level low in
    let some : 0 < 2 ^ (height_of key.lms - suc level) = pow_pos (height_of key.lms - suc level) in
    let most : 2 ^ (height_of key.lms - level) ≤ 2 ^ height_of key.lms = pow_mono {i = height_of key.lms - level} {j = height_of key.lms} (omega arith) in
    let left : get_or nodes (2 * r) [] ≡ node_at key level (2 * r) = table_level key nodes leaves inner level (2 * r) (omega arith) (omega arith) (omega arith) in
    let right : get_or nodes (2 * r + 1) [] ≡ node_at key level (2 * r + 1) = table_level key nodes leaves inner level (2 * r + 1) (omega arith) (omega arith) (omega arith) in
    inner r (omega arith) (omega arith)
    ∙ ap (λ v. inner_value key.id r v (get_or nodes (2 * r + 1) [])) left
    ∙ ap (λ v. inner_value key.id r (node_at key level (2 * r)) v) right

-- the node on the way from leaf q, so many levels up, is one of that level
pub on_level : (h q level : ℕ) → level ≤ h → q < 2 ^ h → (2 ^ (h - level) ≤ (2 ^ h + q) / 2 ^ level) × ((2 ^ h + q) / 2 ^ level < 2 * 2 ^ (h - level))
on_level h q level low leaf =
    let whole : 2 ^ h ≡ 2 ^ (h - level) * 2 ^ level = ap (λ n. 2 ^ n) (omega arith) ∙ pow-add 2 (h - level) level in
    let some : 0 < 2 ^ level = pow_pos level in (
      le-div (2 ^ (h - level)) (2 ^ h + q) (2 ^ level) some (omega arith),
      div_below (2 ^ h + q) (2 ^ level) (2 * 2 ^ (h - level)) some (omega arith),
    )

-- a node's sibling is of its level
pub sibling_on_level : (m r : ℕ) → 2 * m ≤ r → r < 2 * (2 * m) → (2 * m ≤ sibling_of r) × (sibling_of r < 2 * (2 * m))
sibling_on_level m r from to =
    elim (cases_eq (r % 2) 1) [
      | inl odd ↦ rw odd (omega arith, omega arith)
      | inr not_odd ↦ (let even : r % 2 ≡ 0 = omega arith in rw even (omega arith, omega arith))
    ]

-- below the root, the sibling on the way from leaf q stands in the table
pub path_in_table : (key : PrivateKey) (nodes : List (List ℕ)) → IsNodeTable key nodes → (q level : ℕ) → q < leaf_count key → suc level ≤ height_of key.lms → (sibling_of ((leaf_count key + q) / 2 ^ level) < length nodes) × (get_or nodes (sibling_of ((leaf_count key + q) / 2 ^ level)) [] ≡ path_at key q level)
path_in_table key nodes table q level leaf low =
    let half : 2 ^ (height_of key.lms - level) ≡ 2 * 2 ^ (height_of key.lms - suc level) = level_below (height_of key.lms) level low in
    let node : ℕ = (leaf_count key + q) / 2 ^ level in
    let here = on_level (height_of key.lms) q level (omega arith) leaf in
    let sibling = sibling_on_level (2 ^ (height_of key.lms - suc level)) node (omega arith) (omega arith) in
    let most : 2 ^ (height_of key.lms - level) ≤ 2 ^ height_of key.lms = pow_mono {i = height_of key.lms - level} {j = height_of key.lms} (omega arith) in (
      omega (arith, table.size),
      table.each level (sibling_of node) (omega arith) (omega arith) (omega arith),
    )

pub node_table : (key : PrivateKey) (nodes : List (List ℕ)) → length nodes ≡ 2 * leaf_count key → ((r : ℕ) → leaf_count key ≤ r → r < 2 * leaf_count key → get_or nodes r [] ≡ leaf_at key r) → ((r : ℕ) → 1 ≤ r → r < leaf_count key → get_or nodes r [] ≡ inner_value key.id r (get_or nodes (2 * r) []) (get_or nodes (2 * r + 1) [])) → IsNodeTable key nodes
node_table key nodes size leaves inner = record { size = size; each = table_level key nodes leaves inner }

-- the root stands at place 1
pub root_in_table : (key : PrivateKey) (nodes : List (List ℕ)) (root : List ℕ) → IsNodeTable key nodes → root ≡ get_or nodes 1 root → root ≡ node_at key (height_of key.lms) 1
root_in_table key nodes root table read =
    let none : height_of key.lms - height_of key.lms ≡ 0 = omega arith in
    let flat : 2 ^ (height_of key.lms - height_of key.lms) ≡ 1 = ap (λ n. 2 ^ n) none in
    let some : 0 < leaf_count key = pow_pos (height_of key.lms) in
    let inside : 1 < length nodes = omega (arith, table.size) in
    get_or_read nodes 1 root inside read [] ∙ table.each (height_of key.lms) 1 (omega arith) (omega arith) (omega arith)

-- a value that stands among those of some leaves is that of its leaf
pub among_leaves : (key : PrivateKey) (q offset k : ℕ) (part : List (List ℕ)) (value : List ℕ) → AreLeaves key q part → offset < length part → q + offset ≡ k → get_or part offset [] ≡ value → value ≡ leaf_at key (leaf_count key + 0 + k)
among_leaves key q offset k part value leaves inside place read = sym read ∙ leaves offset inside ∙ ap (leaf_at key) (omega arith)
