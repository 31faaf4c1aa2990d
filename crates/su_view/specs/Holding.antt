-- What a client holds: the roster, whose client it is, and a list of commits. Its tree, history,
-- head, vector and i-handles are those of the list.
use Rattle.std.specs.Prelude.{◌≡◌, ℕ, List, ◌++◌, Some, slice_get}
use Rattle.su_bytes.specs.Membership.{Membership}
use Rattle.su_version.specs.Version.{Version}
use Rattle.sha2.specs.Sha256.{sha256}
use Rattle.su_version.specs.Commit.{Commit, commit_bytes}
use Rattle.su_change.specs.Item.{IsChange, HasItem}
use Rattle.su_table.specs.Tree.{Tree}
use Rattle.su_desk.specs.Applied.{tree_after}
use Rattle.su_legal.specs.Legal.{Committed, commits_of, history}
use Rattle.su_legal.specs.Act.{Act.Takes, Act.Signs, May}

pub record HoldingState : Type 0 where
  pub roster : Membership
  pub user : ℕ
  pub held : List Committed
  -- of so many commits, the first ones, neither the bytes nor the items are at hand
  pub itemless : ℕ

-- the tree that the list makes
abbrev pub tree_of_list : HoldingState → Tree
tree_of_list v = tree_after v.roster (history v.held)

-- the commit is one of those that are held, by its digest, as the commits behind it name it
abbrev pub IsHeld : HoldingState → Commit → Type 0
IsHeld v c = (i : ℕ) × (held : Commit) × (slice_get (commits_of v.held) i ≡ Some held)
    × (sha256 (commit_bytes held) ≡ sha256 (commit_bytes c))

-- an item spells the change of the commit
abbrev pub HasSpelledChange : Committed → Type 0
HasSpelledChange c = IsChange c.change × HasItem c.change

-- the same with these commits more
abbrev pub with_more : HoldingState → List Committed → HoldingState
with_more v more = record {
  roster = v.roster;
  user = v.user;
  held = v.held ++ more;
  itemless = v.itemless;
}

-- the client took these commits, as it may
pub record Took (v : HoldingState) (more : List Committed) (v' : HoldingState) : Type 0 where
  pub may : May v.roster v.user v.held (Takes more)
  pub becomes : v' ≡ with_more v more

-- its user may sign the version structure
abbrev pub MaySign : HoldingState → Version → Type 0
MaySign v s = May v.roster v.user v.held (Signs s)
