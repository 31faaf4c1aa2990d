-- What is hashed for the trees in which live operations come.
use Rattle.std.specs.Prelude.{◌≡◌, ℕ, List, ◌++◌, Some}
use Rattle.su_bytes.specs.Membership.{Membership}
use Rattle.su_table.specs.Tree.{Tree, genesis}
use Rattle.su_part_forest.specs.Loading.{HashedFor}
use Rattle.su_desk.specs.History.{NumberedAction, live, replay}
use Rattle.su_desk.specs.Trial.{TrialState, with_ready}

-- i is hashed for a tree to which some first ones of these operations lead from S
pub record IsHashedAlong (ro : Membership) (S : Tree) (ts : List NumberedAction) (i : List ℕ)
    : Type 0 where
  pub before : List NumberedAction
  pub after : List NumberedAction
  pub tree : Tree
  pub whole : ts ≡ before ++ after
  pub reached : replay ro S before ≡ Some tree
  pub hashed : HashedFor tree i

-- so it is of the live operations, with those that stand ready, from the first tree on
abbrev pub WasHashed : TrialState → List ℕ → Type 0
WasHashed t i = IsHashedAlong t.settled.roster genesis (live (with_ready t.settled t.ready).history) i
