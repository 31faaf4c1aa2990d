-- How what a client holds is kept: beside a desk with the changes, the commits without their
-- signatures, and of the last ones their bytes and the items.
use Rattle.std.specs.Prelude.{◌≡◌, ◌+◌, ℕ, true, List, [], ◌∷◌, map, cond, length, drop, Option, Some, None, nat_eq}
use Rattle.std.specs.List.{AllByRecursion}
use Rattle.su_bytes.specs.Membership.{IsRoster, has_user}
use Rattle.su_op.specs.declared.operations.Change.{Change}
use Rattle.su_desk.specs.declared.entries.Entry.{Entry}
use Rattle.su_change.specs.Item.{item_bytes}
use Rattle.su_version.specs.Commit.{Commit, commit_bytes}
use Rattle.su_version.specs.Chain.{MayBeNext}
use Rattle.su_chain.specs.ChainEnd.{IsEndOf}
use Rattle.su_legal.specs.Legal.{Committed, commits_of, entry_made, history, MayJoin, Legal}
use Rattle.su_stored_desk.specs.Asked.{NoneMixed}
use Rattle.su_view.specs.Holding.{HasSpelledChange, HoldingState}
use Rattle.su_view.specs.Viewed.{ViewOn}
use Rattle.su_view.specs.declared.records.Spelling.{Spelling}
use Rattle.su_view.specs.declared.records.Keeping.{Keeping}
use Rattle.su_view.specs.LastCommits.{own_last}

-- each commit with the change of the entry at its place
abbrev pub held_in : List Commit → List Entry → List Committed
held_in (c ∷ cs) (e ∷ es) = record { commit = c; change = e.change } ∷ held_in cs es
held_in _ _ = []

-- the bytes of each commit, with the item of its change
abbrev pub contents : List Spelling → List (List ℕ × List ℕ)
contents spellings = map (λ s. (s.commit.items, s.item.items)) spellings

abbrev pub spellings_of : List Committed → List (List ℕ × List ℕ)
spellings_of cs = map (λ c. (commit_bytes c.commit, item_bytes c.change)) cs

-- the commit, if user u made it
abbrev pub if_by : ℕ → Commit → Option Commit
if_by u c = cond (nat_eq c.version.author u) (Some c) None

module _ {S : Type 0} where
  -- what a client keeps so it holds
  abbrev pub holding_of : Keeping S → HoldingState
  holding_of k = record {
    roster = k.desk.state.settled.roster;
    user = k.user;
    held = held_in k.records.items k.desk.state.settled.history;
    itemless = k.itemless;
  }

  -- and what is seen of its source
  abbrev pub view_of : Keeping S → ViewOn S
  view_of k = record {
    holding = holding_of k;
    source = k.desk.source;
    asked = k.desk.asked;
  }

  -- Commits and entries belong together, and make a chain, where nothing was mixed up a legal list;
  -- and what else is kept is theirs.
  pub record IsKeeping (may_give : S → List ℕ → Type 0) (k : Keeping S) : Type 0 where
    pub roster : IsRoster k.desk.state.settled.roster
    pub commits : commits_of (holding_of k).held ≡ k.records.items
    pub entries : history (holding_of k).held ≡ k.desk.state.settled.history
    pub counted : length k.records.items ≡ k.itemless + length k.spellings.items
    pub spellings : contents k.spellings.items ≡ spellings_of (drop k.itemless (holding_of k).held)
    pub end_is : IsEndOf k.desk.state.settled.roster k.records.items k.end
    pub member : has_user k.desk.state.settled.roster k.user ≡ true
    pub last_own : k.own ≡ own_last (holding_of k)
    pub changes : AllByRecursion HasSpelledChange (holding_of k).held
    pub legal : NoneMixed may_give k.desk.state.settled.roster k.desk.asked
        → Legal k.desk.state.settled.roster (holding_of k).held

  -- The change stands ready, and the commit may be next, and with the change it may join the list
  -- where nothing was mixed up; these are their bytes.
  pub record JoinsNext (may_give : S → List ℕ → Type 0) (k : Keeping S) (c : Commit)
      (change : Change) (bytes item : List ℕ) : Type 0 where
    pub ready : k.desk.state.ready ≡ entry_made c change ∷ []
    pub next : MayBeNext k.desk.state.settled.roster (commits_of (holding_of k).held) c
    pub spelled : HasSpelledChange (record { commit = c; change = change })
    pub joins : NoneMixed may_give k.desk.state.settled.roster k.desk.asked
        → MayJoin k.desk.state.settled.roster (holding_of k).held
        (record { commit = c; change = change })
    pub bytes_are : bytes ≡ commit_bytes c
    pub item_is : item ≡ item_bytes change
