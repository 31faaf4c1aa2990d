-- Which operations have to be undone before another can be.
use Rattle.std.specs.Prelude.{◌≡◌, ℕ, List, ◌++◌, map, All, Contains, Option, None, Some}
use Rattle.su_bytes.specs.Membership.{Membership}
use Rattle.su_bytes.specs.declared.formats.TheConstants.{NEWEST_FORMAT}
use Rattle.su_desk.specs.declared.entries.Entry.{Entry}
use Rattle.su_desk.specs.History.{NumberedAction, entry_at, live, undo_by}
use Rattle.su_desk.specs.Blocker.{blocker, ReadsCellOf}
use Rattle.su_desk.specs.Answer.{GoodAfter}

-- The live operation m stands in the way of n: it came later and read a cell that n wrote, or one
-- that an operation wrote which stands in the way of n.
pub data IsInTheWay (ro : Membership) (h : List Entry) (n : ℕ) : ℕ → Type 0 where
  of_itself : (t : NumberedAction) → Contains (live h) t → ReadsCellOf ro h n t
      → IsInTheWay ro h n t.number
  of_another : (k : ℕ) (t : NumberedAction) → IsInTheWay ro h n k → Contains (live h) t
      → ReadsCellOf ro h k t → IsInTheWay ro h n t.number

-- n is the number of a live operation
pub record IsLive (h : List Entry) (n : ℕ) : Type 0 where
  pub operation : NumberedAction
  pub is_there : Contains (live h) operation
  pub number : operation.number ≡ n

-- whose entry it is; of no entry user 0's
abbrev pub author_in : Option Entry → ℕ
author_in None = 0
author_in (Some e) = e.author

-- the undo of operation n by its author
abbrev pub undo_of : List Entry → ℕ → Entry
undo_of h n = undo_by (author_in (entry_at h n)) NEWEST_FORMAT n

-- the undos of operations, one after another
abbrev pub undos_of : List Entry → List ℕ → List Entry
undos_of h ms = map (undo_of h) ms

-- The reasons why operation n can't be undone yet: each stands in its way; they can be undone one
-- after another, each by its author, in this order; and then nothing blocks n.
pub record AreReasons (ro : Membership) (h : List Entry) (n : ℕ) (ms : List ℕ) : Type 0 where
  pub in_the_way : All (IsInTheWay ro h n) ms
  pub undone : GoodAfter ro h (undos_of h ms)
  pub free : blocker ro (h ++ undos_of h ms) n ≡ None
