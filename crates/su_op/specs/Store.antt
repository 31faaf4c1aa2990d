-- The store as a system of cells.
use Rattle.std.specs.Prelude.{List}
use Rattle.std.specs.Option.{is_none}
use Rattle.su_bytes.specs.Membership.{Membership}
use Rattle.su_table.specs.Tree.{Tree, genesis}
use Rattle.su_node.specs.Field.{Value}
use Rattle.su_table.specs.Cell.{Cell, val}
use Rattle.su_op.specs.declared.areas.Area.{Area}
use Rattle.su_op.specs.Area.{has, meet}
use Rattle.su_op.specs.Action.{Action}
use Rattle.su_op.specs.Operation.{why, effect, reads, writes}
use Rattle.su_op.specs.Soundness.{Sound}
use Rattle.su_undo.specs.System.{System}

-- the trees of a roster's users, and their operations
abbrev pub store : Membership → System
store ro = record {
  State = Tree;
  Cell = Cell;
  Value = Value;
  Action = Action;
  Areas = List Area;
  start = genesis;
  val = val;
  has = has;
  meet = meet;
  Sound = Sound;
  ok = λ T x. is_none (why ro T x);
  act = effect ro;
  reads = reads ro;
  writes = writes ro;
}
