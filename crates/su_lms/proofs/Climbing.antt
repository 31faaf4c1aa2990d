-- The path of a leaf leads to the root.
use Rattle.std.proofs.Common.{◌≡◌, ℕ, zero, suc, ◌+◌, ◌-◌, ◌*◌, ◌/◌, ◌%◌, ◌^◌, List, inl, inr, ap, sym, ◌∙◌, arith, add-one}
use Rattle.std.proofs.lemmas.Bool.{cases_eq}
use Rattle.std.proofs.lemmas.Nat.{shr-shr}
use Rattle.std.proofs.Math.Nat.{div-one}
use Rattle.su_lms.specs.MerkleTree.{node_value, inner_value, parent_value, sibling_of, climb}

-- a node and its sibling lead to the parent
pub parent_value-node : (id : List ℕ) (leaf : ℕ → List ℕ) (level r : ℕ) → parent_value id r (node_value id leaf level (sibling_of r)) (node_value id leaf level r) ≡ node_value id leaf (suc level) (r / 2)
unfolding parent_value node_value
parent_value-node id leaf level r =
    elim (cases_eq (r % 2) 1) [
      | inl odd ↦ (
          let left : r - 1 ≡ 2 * (r / 2) = omega arith in
          let right : r ≡ 2 * (r / 2) + 1 = omega arith in
          rw (odd, left) (ap (λ k. inner_value id (r / 2) (node_value id leaf level (2 * (r / 2))) (node_value id leaf level k)) right)
          )
      | inr not_odd ↦ (
          let even : r % 2 ≡ 0 = omega arith in
          let right : r + 1 ≡ 2 * (r / 2) + 1 = omega arith in
          let left : r ≡ 2 * (r / 2) = omega arith in
          rw (even, right) (ap (λ k. inner_value id (r / 2) (node_value id leaf level k) (node_value id leaf level (2 * (r / 2) + 1))) left)
          )
    ]

-- the siblings on the way lead from a leaf to each node above it
pub climb-path : (id : List ℕ) (leaf : ℕ → List ℕ) (r k : ℕ) → climb id (λ k. node_value id leaf k (sibling_of (r / 2 ^ k))) r (leaf r) k ≡ node_value id leaf k (r / 2 ^ k)
unfolding climb node_value
climb-path id leaf r zero = ap leaf (sym (div-one r))
climb-path id leaf r (suc k) =
    let half : r / 2 ^ k / 2 ≡ r / 2 ^ suc k = shr-shr r k 1 ∙ ap (λ n. r / 2 ^ n) (add-one k) in
    ap (λ value. parent_value id (r / 2 ^ k) (node_value id leaf k (sibling_of (r / 2 ^ k))) value) (climb-path id leaf r k)
    ∙ parent_value-node id leaf k (r / 2 ^ k) ∙ ap (node_value id leaf (suc k)) half
