-- Items in memory.
use Rattle.std.specs.Prelude.{◌≡◌, ℕ, List, [], ◌∷◌, Contains, Option}
use Rattle.std.specs.List.{AllByRecursion, find}
use Rattle.std.specs.Option.{option_or}
use Rattle.std.specs.Str.{bytes_eq}
use Rattle.sha2.specs.Sha256.{sha256}
use Rattle.su_block.specs.declared.failures.Failures.{Failures}

-- the items that are held, in some order, and the failures so far
pub record Memory : Type 0 where
  pub items : List (List ℕ)
  pub failed : Failures

-- one of these items has the digest
abbrev pub HasItemOf : List (List ℕ) → List ℕ → Type 0
HasItemOf items digest = (item : List ℕ) × Contains items item × (sha256 item ≡ digest)

-- the item that is held under a digest
unfoldable pub held_under : List (List ℕ) → List ℕ → Option (List ℕ)
held_under items digest = find (λ item. bytes_eq digest (sha256 item)) items

-- the same with one item more, under its own digest; what was held there stays
abbrev pub held_with : (List ℕ → Option (List ℕ)) → List ℕ → List ℕ → Option (List ℕ)
held_with held item digest = option_or (held digest) (held_under (item ∷ []) digest)

-- each is held under its digest
abbrev pub AreUnderTheirDigests : List (List ℕ × List ℕ) → Type 0
AreUnderTheirDigests held = AllByRecursion (λ e. sha256 e.1 ≡ e.0) held
