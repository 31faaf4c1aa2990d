-- What stands in the way of an undo.
use Rattle.std.specs.Prelude.{◌≡◌, ℕ, ◌<◌, ◌≤◌, Bool, true, ◌&&◌, List, Option, nat_lt, All, Contains}
use Rattle.std.specs.List.{filter}
use Rattle.su_bytes.specs.Membership.{Membership}
use Rattle.su_table.specs.Cell.{Cell}
use Rattle.su_op.specs.declared.areas.Area.{Area}
use Rattle.su_op.specs.Area.{has, meet}
use Rattle.su_desk.specs.declared.entries.Entry.{Entry}
use Rattle.su_desk.specs.History.{NumberedAction, live, last_number}
use Rattle.su_desk.specs.Applied.{reads_where_applied, written_by}

-- operation t came after n, and read a cell that n wrote, each where it was applied
abbrev pub reads_after : Membership → List Entry → ℕ → NumberedAction → Bool
reads_after ro h n t = nat_lt n t.number && meet (reads_where_applied ro h t) (written_by ro h n)

-- what stands in the way of an undo of n: the last live operation that came after it and read a
-- cell that it wrote
abbrev pub blocker : Membership → List Entry → ℕ → Option ℕ
blocker ro h n = last_number (filter (reads_after ro h n) (live h))

-- ---- the same by cells

-- a cell is in both
pub record HaveCommonCell (u w : List Area) : Type 0 where
  pub cell : Cell
  pub first : has u cell ≡ true
  pub second : has w cell ≡ true

-- operation t came after n, and a cell is both among those that it read and among those that n
-- wrote
pub record ReadsCellOf (ro : Membership) (h : List Entry) (n : ℕ) (t : NumberedAction)
    : Type 0 where
  pub later : n < t.number
  pub common : HaveCommonCell (reads_where_applied ro h t) (written_by ro h n)

-- m is the greatest number of a live operation of which this holds
pub record IsLastReader (ro : Membership) (h : List Entry) (n : ℕ) (m : ℕ) : Type 0 where
  pub reader : NumberedAction
  pub is_live : Contains (live h) reader
  pub number : reader.number ≡ m
  pub reads : ReadsCellOf ro h n reader
  pub greatest : All (λ t. ReadsCellOf ro h n t → t.number ≤ m) (live h)
