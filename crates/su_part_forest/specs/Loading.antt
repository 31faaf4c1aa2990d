-- What a load tells of a forest of parts, and what of it is loaded or known.
use Rattle.std.specs.Prelude.{◌≡◌, ◌≢◌, ◌⊎◌, ℕ, List, Option, Some, None, Result, ⊤, IfSome}
use Rattle.std.specs.List.{Contains}
use Rattle.su_bytes.specs.Place.{Place}
use Rattle.su_bytes.specs.declared.refusals.Refusal.{Refusal}
use Rattle.su_block.specs.declared.failures.Failures.{Failures}
use Rattle.su_tree.specs.Collision.{encodings}
use Rattle.su_tree.specs.Number.{numbers}
use Rattle.su_tree.specs.Value.{place_bytes}
use Rattle.su_table.specs.Tree.{Tree}
use Rattle.su_table.specs.Handle.{group_table}
use Rattle.su_part.specs.Fetches.{HasWantedAt}
use Rattle.su_part.specs.Loads.{Loads}
use Rattle.su_part.specs.Part.{HasAll, ItemOf, StaysLoaded}
use Rattle.su_part.specs.declared.fetches.Wanted.{Wanted}
use Rattle.su_group_part.specs.Part.{HasPointer, StandsGroup}
use Rattle.su_group_part.specs.declared.groups.GroupPart.{GroupPart}
use Rattle.su_part_forest.specs.Forest.{Stands, user_part, group_part}
use Rattle.su_part_forest.specs.declared.forests.PartForest.{PartForest}

-- what stands at the place is loaded, and what is wanted of it
abbrev pub HasAt : Place → Wanted → PartForest → Type 0
HasAt p w f = IfSome (user_part p.0 f) (HasWantedAt p.1 w)

-- a byte string that is hashed for what a user or a group has in T
abbrev pub HashedFor : Tree → List ℕ → Type 0
HashedFor T s =
    ((u : ℕ) × ItemOf u T s)
    ⊎ ((g : ℕ) × Contains (encodings (numbers place_bytes) (group_table T g)) s)

-- the pointers that are loaded of p are loaded of q
abbrev pub KeepsPointers : GroupPart → GroupPart → Type 0
KeepsPointers p q = (n : ℕ) → HasPointer n p → HasPointer n q

-- a part that is there is kept
abbrev pub IsKept : {P : Type 0} → (P → P → Type 0) → Option P → Option P → Type 0
IsKept Keeps None o = ⊤
IsKept Keeps (Some p) None = ⊥
IsKept Keeps (Some p) (Some q) = Keeps p q

-- what is loaded of f is loaded of g
pub record KeepsLoaded (f g : PartForest) : Type 0 where
  pub users : (u : ℕ) → IsKept HasAll (user_part u f) (user_part u g)
  pub groups : (k : ℕ) → IsKept KeepsPointers (group_part k f) (group_part k g)

-- What is loaded of f is loaded of g, but for the content of what stands at the place.
pub record KeepsBeside (p : Place) (f g : PartForest) : Type 0 where
  pub here : IsKept (StaysLoaded p.1) (user_part p.0 f) (user_part p.0 g)
  pub others : (u : ℕ) → u ≢ p.0 → user_part u g ≡ user_part u f
  pub groups : (k : ℕ) → group_part k g ≡ group_part k f

-- what a load of a forest tells
abbrev pub LoadsForest : {S A : Type 0} → (S → List ℕ → Type 0) → (S → Failures)
    → (S → S → Type 0) → PartForest → PartForest → S → S → Result A Refusal → Type 0
LoadsForest may_give failed_of comes =
    Loads Stands HashedFor KeepsLoaded may_give failed_of comes

-- what a load of a group's part tells
abbrev pub LoadsGroup : {S A : Type 0} → (S → List ℕ → Type 0) → (S → Failures) → (S → S → Type 0)
    → ℕ → GroupPart → GroupPart → S → S → Result A Refusal → Type 0
LoadsGroup may_give failed_of comes k =
    Loads (StandsGroup k) (λ T s. Contains (encodings (numbers place_bytes) (group_table T k)) s)
    KeepsPointers may_give failed_of comes
