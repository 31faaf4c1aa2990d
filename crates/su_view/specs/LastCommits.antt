-- What a client asks of the last commits of the users, as a server shows them, once it has taken
-- the commits behind its list. (SUNDR, section 3.3: a client checks that its own last version
-- structure is there, and that all are ordered.)
use Rattle.std.specs.Prelude.{◌≡◌, ◌≤◌, ◌<◌, ◌⊎◌, ℕ, Bool, true, cond, List, [], ◌∷◌, length, map, Option, None, Some, option_map, nat_eq}
use Rattle.std.specs.List.{AllByRecursion, list_any}
use Rattle.std.specs.Option.{option_or}
use Rattle.su_bytes.specs.Membership.{Membership}
use Rattle.su_bytes.specs.Order.{Line, demand}
use Rattle.su_bytes.specs.declared.refusals.Refusal.TheVariants.{BadSignature, NotOrdered}
use Rattle.su_vector.specs.Vector.{number_of}
use Rattle.su_vector.specs.Order.{AreComparable, IsFirstUnordered}
use Rattle.su_version.specs.Commit.{Commit}
use Rattle.su_version.specs.Chain.{IsSignedBy, chain_key}
use Rattle.su_legal.specs.Legal.{Committed, author_of, commits_of}
use Rattle.su_view.specs.Holding.{HoldingState, IsHeld}
use Rattle.su_view.specs.declared.refusals.ViewRefusal.{ViewRefusal}
use Rattle.su_view.specs.declared.refusals.ViewRefusal.TheVariants.{Plain, OwnMissing}

-- ---- the last commit of a client's own user

-- the last commit of user u in a list
abbrev pub last_by : ℕ → List Committed → Option Committed
last_by u [] = None
last_by u (c ∷ cs) = option_or (last_by u cs) (cond (nat_eq (author_of c) u) (Some c) None)

-- the last commit of the client's own user that is held, if there is one
abbrev pub own_last : HoldingState → Option Commit
own_last v = option_map (λ c. c.commit) (last_by v.user v.held)

-- Of the last commit that is held of user u, and one that is shown as such: the shown one has a
-- number of u, which isn't lower; and if it is the same, so are the commits.
pub record IsNotBehind (ro : Membership) (u : ℕ) (last shown : Commit) : Type 0 where
  pub number : ℕ
  pub has : number_of ro shown.version.vector u ≡ Some number
  pub not_lower : (n : ℕ) → number_of ro last.version.vector u ≡ Some n → n ≤ number
  pub same : number_of ro last.version.vector u ≡ Some number → shown ≡ last

abbrev pub is_by : ℕ → Commit → Bool
is_by u c = nat_eq c.version.author u

-- a commit of user u is shown, and each such isn't behind the user's last one
pub record ShowsLast (ro : Membership) (u : ℕ) (last : Commit) (shown : List Commit) : Type 0 where
  pub some_own : list_any (is_by u) shown ≡ true
  pub not_behind : AllByRecursion (λ c. is_by u c ≡ true → IsNotBehind ro u last c) shown

-- so it is, if user u has a last commit
abbrev pub ShowsOwn : Membership → ℕ → Option Commit → List Commit → Type 0
ShowsOwn ro u None shown = Unit {0}
ShowsOwn ro u (Some last) shown = ShowsLast ro u last shown

-- ---- what passes

abbrev pub vectors_of : List Commit → List (List ℕ)
vectors_of shown = map (λ c. c.version.vector) shown

-- A client that holds v knows a commit that is shown to be signed: it is held, and was signed under
-- the key that its author had at its place; or it is signed under the key that the author has now.
abbrev pub IsShownSigned : HoldingState → Commit → Type 0
IsShownSigned v c =
    IsHeld v c ⊎ IsSignedBy (chain_key v.roster c.version.author (commits_of v.held)) c

abbrev pub AreSigned : HoldingState → List Commit → Type 0
AreSigned v shown = AllByRecursion (IsShownSigned v) shown

-- of each two of these the vectors are comparable
abbrev pub AreOrdered : List Commit → Type 0
AreOrdered shown = (i j : ℕ) → i < j → j < length shown → AreComparable (vectors_of shown) i j

-- What the commits that are shown as the users' last ones have to meet beside their signatures, for
-- a client of user u with this last commit, in this order: the user's own is there; and all are
-- ordered.
abbrev pub own_order : Membership → ℕ → Option Commit → List Commit → List (Line ViewRefusal)
own_order ro u last shown =
    demand (ShowsOwn ro u last shown) OwnMissing
    ∷ record {
      holds = AreOrdered shown;
      refusal = λ e. (i j : ℕ) × (e ≡ Plain (NotOrdered i j))
          × IsFirstUnordered (vectors_of shown) i j;
    }
    ∷ []

-- What they have to meet for a client that holds v, in this order: each is known to be signed; and
-- then these.
abbrev pub shown_order : HoldingState → List Commit → List (Line ViewRefusal)
shown_order v shown =
    demand (AreSigned v shown) (Plain BadSignature)
    ∷ own_order v.roster v.user (own_last v) shown
