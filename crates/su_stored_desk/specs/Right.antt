-- A desk whose forest may lie on a store, and when what it keeps is right.
use Rattle.std.specs.Prelude.{◌≡◌, ℕ, List, map}
use Rattle.su_bytes.specs.Membership.{Membership}
use Rattle.su_bytes.specs.Principal.{principals}
use Rattle.su_bytes.specs.declared.principals.Principal.{Principal}
use Rattle.su_bytes.specs.declared.refusals.Refusal.{Refusal}
use Rattle.su_block.specs.declared.failures.Failures.{Failures}
use Rattle.su_block.specs.declared.sources.BlockSource.{Ghosts}
use Rattle.su_desk.specs.Desk.{DeskState}
use Rattle.su_desk.specs.History.{keys_after}
use Rattle.su_desk.specs.Trial.{tree_of}
use Rattle.su_desk.specs.Version.{carried_groups, versions}
use Rattle.su_desk.specs.declared.prepared.Prepared.{Prepared}
use Rattle.su_op.specs.declared.areas.Area.{Area}
use Rattle.su_part.specs.Bytes.{NoneClash}
use Rattle.su_part_forest.specs.Loading.{HashedFor}
use Rattle.su_stored_forest.specs.Shows.{Fails, Holds}
use Rattle.su_used_keys.specs.UsedKeys.{HasJust}
use Rattle.su_stored_desk.specs.Keeping.{Keeps}
use Rattle.su_stored_desk.specs.declared.desks.Desk.{Desk}

module _ {S : Type 0} {g : Ghosts S} where
  -- its roster and its history
  abbrev pub state_of : Desk S g → DeskState
  state_of d = record { roster = d.roster; history = d.entries.items }

  -- What it keeps is that of its history: the history is a good one, and of each live operation what
  -- undoes it is kept; its forest holds the tree that these make; and it has the version numbers, and
  -- the keys that users have or had.
  pub record IsRight (d : Desk S g) : Type 0 where
    pub keeps : Keeps d.roster d.entries.items d.kept (tree_of (state_of d))
    pub holds : Holds d.stored (tree_of (state_of d))
    pub counters : d.counters.items ≡ versions d.roster d.entries.items
    pub keys : HasJust (keys_after d.roster d.entries.items) d.used

  -- It is right, and no byte string that is hashed for its tree has the digest of another one that
  -- its store may give: so what is loaded of that tree is that tree's.
  pub record IsSure (may_give : S → List ℕ → Type 0) (d : Desk S g) : Type 0 where
    pub right : IsRight d
    pub unmixed : NoneClash (HashedFor (tree_of (state_of d))) (may_give d.stored.source)

  -- so it may fail when its store is asked about the tree of d: a failure is about an item of that
  abbrev pub FailsAt : (S → Failures) → DeskState → Desk S g → Refusal → Type 0
  FailsAt failed_of d s e = Fails failed_of (tree_of d) s.stored e

-- a number of each user and group of the roster, in its order
abbrev pub HasNumbers : Membership → List (Principal × ℕ) → Type 0
HasNumbers ro vs = map (λ v. v.0) vs ≡ principals ro

-- What is told of a change has a number of each, and i-handles of groups of the roster in its order,
-- whatever they are.
pub record HasShape (ro : Membership) (p : Prepared) : Type 0 where
  pub versions : HasNumbers ro p.versions.items
  pub written : List Area
  pub groups : map (λ g. g.0) p.groups.items ≡ carried_groups ro written

-- what may have become of a store by questions: it may give nothing more
pub record MayBecome {S : Type 0} (may_give : S → List ℕ → Type 0) (comes : S → S → Type 0)
    (s t : S) : Type 0 where
  pub follows : comes s t
  pub no_more : (i : List ℕ) → may_give t i → may_give s i
