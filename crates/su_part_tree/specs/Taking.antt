-- Splits of which a side lost its last pair.
use Rattle.std.specs.Prelude.{◌≡◌, ◌⊎◌, Bool, true, false, List}
use Rattle.su_tree.specs.Bits.{bit_at}
use Rattle.su_hash_tree.specs.Stands.{IsEmpty}
use Rattle.su_hash_tree.specs.declared.nodes.Node.{Node, Stub, Empty, Leaf, Split'}

-- the key's side of a split is empty
abbrev pub OnEmptySide : {K V : Type 0} → (K → List Bool) → K → Node K V → Type 0
OnEmptySide bits k (Stub d) = ⊥
OnEmptySide bits k (Empty d) = ⊥
OnEmptySide bits k (Leaf x v d) = ⊥
OnEmptySide bits k (Split' p a l b r d) = ((bit_at (bits k) p ≡ true) × IsEmpty r) ⊎ ((bit_at (bits k) p ≡ false) × IsEmpty l)
