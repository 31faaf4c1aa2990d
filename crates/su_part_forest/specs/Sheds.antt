-- What leaving a forest of parts on a store tells.
use Rattle.std.specs.Prelude.{◌≡◌, ◌⊎◌, ℕ, List, Some, Result, IfSome}
use Rattle.su_bytes.specs.declared.refusals.Refusal.{Refusal}
use Rattle.su_block.specs.declared.failures.Failures.{Failures}
use Rattle.su_part_tree.specs.Part.{HasNone, IsItemIn}
use Rattle.su_part.specs.Sheds.{HasNothing, IsItemInUser, Sheds}
use Rattle.su_part.specs.declared.users.UserPart.{UserPart}
use Rattle.su_group_part.specs.Part.{place_sort}
use Rattle.su_group_part.specs.declared.groups.GroupPart.{GroupPart}
use Rattle.su_part_forest.specs.Forest.{Stands, user_part, group_part}
use Rattle.su_part_forest.specs.Loading.{HashedFor}
use Rattle.su_part_forest.specs.declared.forests.PartForest.{PartForest}

-- s is the item of something that is loaded of a user's part, or of a group's
abbrev pub IsItemInForest : PartForest → List ℕ → Type 0
IsItemInForest f s =
    ((u : ℕ) × (p : UserPart) × (user_part u f ≡ Some p) × IsItemInUser p s)
    ⊎ ((k : ℕ) × (p : GroupPart) × (group_part k f ≡ Some p) × IsItemIn place_sort p.table s)

-- nothing is loaded: of each user's and each group's table only the digest is kept
pub record HasNothingLoaded (f : PartForest) : Type 0 where
  pub users : (u : ℕ) → IfSome (user_part u f) HasNothing
  pub groups : (k : ℕ) → IfSome (group_part k f) (λ p. HasNone p.table)

-- what leaving a forest on a store tells
abbrev pub ShedsForest : {S A : Type 0} → (S → List ℕ → Type 0) → (S → Failures)
    → (S → S → Type 0) → (S → List ℕ → S → Type 0)
    → PartForest → PartForest → S → S → Result A Refusal → Type 0
ShedsForest may_give failed_of comes puts =
    Sheds Stands HashedFor IsItemInForest may_give failed_of comes puts
