-- Looks at the pairs that are loaded, at a split.
use Rattle.std.proofs.Common.{◌≡◌, ◌∙◌, ℕ, Bool, true, false, List, [], ◌∷◌, ◌++◌, length, Option, arith, sym, ap, IsTrue}
use Rattle.std.specs.Prelude.{◌↔◌}
use Rattle.std.proofs.lemmas.Bool.{false≢true}
use Rattle.su_tree.specs.Bits.{bit_at}
use Rattle.su_tree.specs.Parting.{Turns}
use Rattle.su_hash_tree.specs.Sort.{Sort}
use Rattle.su_hash_tree.specs.Edits.{value_at}
use Rattle.su_hash_tree.specs.declared.nodes.Node.{Node}
use Rattle.su_hash_tree.specs.Stands.{Joins, Stands, pairs}
use Rattle.su_part_tree.proofs.Seeing.{past, before, pairs_each}

module _ {K V : Type 0} (t : Sort K V) (k : K) (p : ℕ) (d : List ℕ) (l r : Node K V) (m : List (K × V)) (j : Joins t p d (Stands t l) (Stands t r) m) where
  pub seen_right : (o : Option V) → o ≡ value_at t.kind.bits k (pairs r) → bit_at (t.kind.bits k) p ≡ true → o ≡ value_at t.kind.bits k (pairs l ++ pairs r)
  seen_right o found bit = found ∙ sym (past t k p j.parts.word (pairs l) (pairs r) j.parts.at bit (pairs_each t (λ e. Turns j.parts.word false (t.kind.bits e.0)) l j.left j.in_left j.parts.zeros))

  pub seen_left : (o : Option V) → o ≡ value_at t.kind.bits k (pairs l) → bit_at (t.kind.bits k) p ≡ false → o ≡ value_at t.kind.bits k (pairs l ++ pairs r)
  seen_left o found bit = found ∙ sym (before t k p j.parts.word (pairs l) (pairs r) j.parts.at bit (pairs_each t (λ e. Turns j.parts.word true (t.kind.bits e.0)) r j.right j.in_right j.parts.ones))

-- ---- sides of which none has a pair
module _ {X : Type 0} where
  none_left : (xs ys : List X) → xs ++ ys ≡ [] → xs ≡ []
  none_left [] ys e = λ i. []
  none_left (x ∷ xs) ys e = absurd (omega (arith, ap length e))

  pub some_in_left : (b : Bool) (xs ys : List X) → (IsTrue b ↔ (xs ≡ [])) → b ≡ false → xs ++ ys ≡ [] → ⊥
  some_in_left b xs ys h off e = false≢true (sym off ∙ h.1 (none_left xs ys e))

  pub none_in_left : (b c : Bool) (xs ys : List X) → (IsTrue b ↔ (xs ≡ [])) → b ≡ true → (IsTrue c ↔ (ys ≡ [])) → IsTrue c ↔ (xs ++ ys ≡ [])
  none_in_left b c xs ys h on g = rw (h.0 on) g
