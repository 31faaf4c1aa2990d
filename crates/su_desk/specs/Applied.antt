-- What the operations of a history read and wrote where they were applied: in the tree of the
-- entries before them. And what it means that they go in the replay as they did there.
use Rattle.std.specs.Prelude.{ℕ, ◌-◌, List, [], take, Option, Some, None}
use Rattle.std.specs.Option.{unwrap_or}
use Rattle.su_bytes.specs.Membership.{Membership}
use Rattle.su_table.specs.Tree.{Tree, genesis}
use Rattle.su_op.specs.declared.areas.Area.{Area}
use Rattle.su_op.specs.declared.operations.Change.{Change}
use Rattle.su_op.specs.declared.operations.Change.TheVariants.{Do}
use Rattle.su_op.specs.Batch.{reads, writes}
use Rattle.su_op.specs.Batch.{store}
use Rattle.su_undo.specs.System.{Agree, GoesAlike}
use Rattle.su_desk.specs.declared.entries.Entry.{Entry}
use Rattle.su_desk.specs.History.{NumberedAction, action_of, tree, entry_at}

-- the tree that a history leaves. (A good history always has one.)
abbrev pub tree_after : Membership → List Entry → Tree
tree_after ro h = unwrap_or (tree ro h) genesis

-- the tree where entry n was applied
abbrev pub tree_before : Membership → List Entry → ℕ → Tree
tree_before ro h n = tree_after ro (take (n - 1) h)

-- what an operation read there
abbrev pub reads_where_applied : Membership → List Entry → NumberedAction → List Area
reads_where_applied ro h t = reads ro (tree_before ro h t.number) t.action

-- and what it wrote
abbrev pub writes_where_applied : Membership → List Entry → NumberedAction → List Area
writes_where_applied ro h t = writes ro (tree_before ro h t.number) t.action

-- what an entry, whose change is given, writes in T: an undo nothing of its own, and a rekey nothing
abbrev pub writes_by_change : Membership → Tree → Entry → Change → List Area
writes_by_change ro T e (Do op) = writes ro T (action_of e op)
writes_by_change ro T e _ = []

-- the same where there may be no entry
abbrev pub entry_writes : Membership → Tree → Option Entry → List Area
entry_writes ro T None = []
entry_writes ro T (Some e) = writes_by_change ro T e e.change

-- what the operation of entry n wrote where it was applied; nothing where entry n is no operation
abbrev pub written_by : Membership → List Entry → ℕ → List Area
written_by ro h n = entry_writes ro (tree_before ro h n) (entry_at h n)

-- In tree S, where it comes in the replay, an operation goes as it did where it was applied.
pub record GoesAsApplied (ro : Membership) (h : List Entry) (S : Tree) (t : NumberedAction)
    : Type 0 where
  -- the cells that it read there, and so those that it wrote, hold what they held
  pub found : Agree (store ro) (reads_where_applied ro h t) S (tree_before ro h t.number)
  -- it is accepted, reads and writes the same cells, and writes the same values
  pub alike : GoesAlike (store ro) (tree_before ro h t.number) S t.action
