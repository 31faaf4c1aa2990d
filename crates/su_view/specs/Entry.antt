-- What is asked of a list by the number of a commit, from 1.
use Rattle.std.specs.Prelude.{◌≡◌, ℕ, ◌-◌, cond, List, Option, Some, None, nat_eq, slice_get}
use Rattle.su_version.specs.Commit.{commit_bytes}
use Rattle.su_change.specs.Item.{item_bytes}
use Rattle.su_legal.specs.Legal.{Committed}

-- the commit of a number, with its change
abbrev pub committed_at : List Committed → ℕ → Option Committed
committed_at cs n = cond (nat_eq n 0) None (slice_get cs (n - 1))

-- these are the bytes of the commit of that number, and the item of its change
pub record AreBytesAt (cs : List Committed) (n : ℕ) (commit item : List ℕ) : Type 0 where
  pub committed : Committed
  pub found : committed_at cs n ≡ Some committed
  pub commit_is : commit ≡ commit_bytes committed.commit
  pub item_is : item ≡ item_bytes committed.change
