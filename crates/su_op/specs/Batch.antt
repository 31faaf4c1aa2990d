-- Batches: operations of one user, one after another, as one action. Each comes behind those before
-- it: it is accepted, reads and writes in the tree that they leave.
use Rattle.std.specs.Prelude.{ℕ, List, [], ◌∷◌, ◌++◌, map, Option, None, Some}
use Rattle.std.specs.Option.{is_none, option_or}
use Rattle.su_bytes.specs.Membership.{Membership}
use Rattle.su_bytes.specs.declared.formats.Format.{Format}
use Rattle.su_bytes.specs.declared.refusals.Refusal.{Refusal}
use Rattle.su_bytes.specs.declared.refusals.Refusal.TheVariants.{BadNumber}
use Rattle.su_table.specs.Tree.{Tree, genesis}
use Rattle.su_node.specs.Field.{Value}
use Rattle.su_table.specs.Cell.{Cell, val}
use Rattle.su_op.specs.declared.areas.Area.{Area}
use Rattle.su_op.specs.declared.operations.Op.{Op}
use Rattle.su_op.specs.Area.{has, meet}
use Rattle.su_op.specs.Action.{Action as OneAction, action_by as one_by}
use Rattle.su_op.specs.Operation.{why as why_one, effect as effect_of_one}
use Rattle.su_op.specs.Soundness.{Sound}
use Rattle.su_op.specs.Store.{store as operations}
use Rattle.su_undo.specs.System.{System}
use Rattle.su_undo.specs.Union.{Union}
use Rattle.su_undo.specs.Batch.{all_acted, all_reads, all_writes, batched}

-- the operations of a batch by a user, made in a format
pub record Action : Type 0 where
  pub author : ℕ
  pub format : Format
  pub operations : List Op

-- these operations, by that user, in that format
abbrev pub action_by : ℕ → Format → List Op → Action
action_by a f ops = record { author = a; format = f; operations = ops }

-- each as an action of its own
abbrev pub each_by : ℕ → Format → List Op → List OneAction
each_by a f ops = map (one_by a f) ops

-- areas put together: one list behind the other
abbrev pub areas : (ro : Membership) → Union (operations ro)
areas ro = record { none = []; join = λ a b. a ++ b }

-- ---- what a batch is and does in T

-- the first refusal that operations by user a meet, made in format f one after another from T, if
-- they meet one
abbrev pub first_refusal : Membership → Tree → ℕ → Format → List Op → Option Refusal
first_refusal ro T a f [] = None
first_refusal ro T a f (op ∷ ops) =
    option_or (why_one ro T (one_by a f op))
    (first_refusal ro (effect_of_one ro T (one_by a f op)) a f ops)

-- why they are not accepted; no operation at all is no batch
abbrev pub batch_refusal : Membership → Tree → ℕ → Format → List Op → Option Refusal
batch_refusal ro T a f [] = Some BadNumber
batch_refusal ro T a f (op ∷ ops) = first_refusal ro T a f (op ∷ ops)

abbrev pub why : Membership → Tree → Action → Option Refusal
why ro T x = batch_refusal ro T x.author x.format x.operations

-- the tree after it
abbrev pub effect : Membership → Tree → Action → Tree
effect ro T x = all_acted (operations ro) T (each_by x.author x.format x.operations)

-- the cells that its operations read, each where it comes
abbrev pub reads : Membership → Tree → Action → List Area
reads ro T x = all_reads (operations ro) (areas ro) T (each_by x.author x.format x.operations)

-- the cells that they write
abbrev pub writes : Membership → Tree → Action → List Area
writes ro T x = all_writes (operations ro) (areas ro) T (each_by x.author x.format x.operations)

-- ---- the store

-- the trees of a roster's users, and lists of operations by any of them
abbrev pub lists_store : Membership → System
lists_store ro = batched (operations ro) (areas ro)

-- the trees of a roster's users, and their batches
abbrev pub store : Membership → System
store ro = record {
  State = Tree;
  Cell = Cell;
  Value = Value;
  Action = Action;
  Areas = List Area;
  start = genesis;
  val = val;
  has = has;
  meet = meet;
  Sound = Sound;
  ok = λ T x. is_none (why ro T x);
  act = effect ro;
  reads = reads ro;
  writes = writes ro;
}
