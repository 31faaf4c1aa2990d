-- What is known of a forest of parts: a thing is loaded, or what the forest stands for has nothing
-- there. So a removal, which may leave a path at a stub, leaves all known that was.
use Rattle.std.specs.Prelude.{◌≡◌, ◌≢◌, ℕ, IfSome, ⊤}
use Rattle.su_bytes.specs.Place.{Place, GroupFile}
use Rattle.su_table.specs.Tree.{Tree}
use Rattle.su_part.specs.Cut.{HasCutOf}
use Rattle.su_part.specs.Left.{HasPathsOf, KnowsPath, IsNoneOf as IsNoneOfUser}
use Rattle.su_part.specs.Part.{HasAt as HasOf}
use Rattle.su_part.specs.Known.{Want as PartWant, Want.AName, Want.ABlock, Knows as KnowsOf}
use Rattle.su_group_part.specs.Part.{KnowsPointer}
use Rattle.su_part_forest.specs.Forest.{user_part, group_part}
use Rattle.su_part_forest.specs.declared.forests.PartForest.{PartForest}

-- what may be wanted: something that a user has, the pointer of a group file
pub data Want : Type 0 where
  OfUser : ℕ → PartWant → Want
  OfGroup : GroupFile → Want

-- it is known of f, which stands for T
abbrev pub Knows : Tree → Want → PartForest → Type 0
Knows T (OfUser u w) f = IfSome (user_part u f) (KnowsOf u T w)
Knows T (OfGroup g) f = IfSome (group_part g.0 f) (KnowsPointer g.0 T g.1)

-- what is known of f, which stands for T, is known of g for V
abbrev pub StaysKnown : Tree → Tree → PartForest → PartForest → Type 0
StaysKnown T V f g = (w : Want) → Knows T w f → Knows V w g

-- it is no name and no block of what stands at the place
abbrev pub IsBeside : Place → Want → Type 0
IsBeside p (OfUser u (AName n x)) = (u, n) ≢ p
IsBeside p (OfUser u (ABlock n k)) = (u, n) ≢ p
IsBeside p _ = ⊤

-- so of all besides the names and the blocks of what stands at the place
abbrev pub StaysKnownBeside : Place → Tree → Tree → PartForest → PartForest → Type 0
StaysKnownBeside p T V f g = (w : Want) → IsBeside p w → Knows T w f → Knows V w g

-- what stands at the place is loaded, and what a cut of it to that size needs
abbrev pub HasCutAt : Place → ℕ → PartForest → Type 0
HasCutAt p size f = IfSome (user_part p.0 f) (HasOf p.1 (HasCutOf size))

-- ---- blocks that are left

-- what stands at the place is loaded, and of it the paths of the block numbers from `first` on and
-- before `end`
abbrev pub HasPathsAt : Place → ℕ → ℕ → PartForest → Type 0
HasPathsAt p first end_ f = IfSome (user_part p.0 f) (HasOf p.1 (HasPathsOf first end_))

-- the path of block number k of what stands at the place is known
abbrev pub KnowsPathAt : Tree → Place → ℕ → PartForest → Type 0
KnowsPathAt T p k f = IfSome (user_part p.0 f) (KnowsPath p.0 T p.1 k)

-- it is no block of what stands at the place from number `first` on and before `end`
abbrev pub IsNoneOf : Place → ℕ → ℕ → Want → Type 0
IsNoneOf p first end_ (OfUser u w) = u ≡ p.0 → IsNoneOfUser p.1 first end_ w
IsNoneOf p first end_ (OfGroup g) = ⊤

-- What is known of f, which stands for T, is known of g for V, but for the blocks of what stands at
-- the place from number `first` on and before `end`; of all blocks the paths.
pub record StaysKnownBut (p : Place) (first end_ : ℕ) (T V : Tree) (f g : PartForest) : Type 0
  where
    pub known : (w : Want) → IsNoneOf p first end_ w → Knows T w f → Knows V w g
    pub paths : (q : Place) (k : ℕ) → KnowsPathAt T q k f → KnowsPathAt V q k g
