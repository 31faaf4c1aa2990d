-- The bodies of a user go to which no file id leads any more.
use Rattle.std.specs.Prelude.{ℕ, ◌+◌, ◌-◌, Bool, List, map, filter, is_some}
use Rattle.std.specs.List.{range_with_len}
use Rattle.su_table.specs.Tree.{Tree}
use Rattle.su_op.specs.DropBody.{stale_home}
use Rattle.su_op.specs.declared.operations.Op.{Op}
use Rattle.su_op.specs.declared.operations.Op.TheVariants.{Drop}
use Rattle.su_draft.specs.Number.{last_number}

-- at that number of user a's table stands a body to which no file id leads
abbrev pub is_stale : Tree → ℕ → ℕ → Bool
is_stale T a n = is_some (stale_home T (a, n))

-- those numbers, from `from` to the last one
unfoldable pub stale_from : Tree → ℕ → ℕ → List ℕ
stale_from T a from = filter (is_stale T a) (range_with_len from (last_number + 1 - from))

-- the drop of the body at that number
abbrev pub drop_of : ℕ → Op
drop_of n = Drop (record { body = n })

-- a drop of each
unfoldable pub tidy_draft : Tree → ℕ → List Op
tidy_draft T a = map drop_of (stale_from T a 1)
