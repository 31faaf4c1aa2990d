use Rattle.std.proofs.Common.{◌≡◌, drop}
use Rattle.su_desk.specs.Trial.{tree_with_ready}
use Rattle.su_plan.specs.Plan.{and_behind, plan_all}
use Rattle.su_stored_desk.specs.Asked.{Asks, IsClear}
use Rattle.su_stored_plan.proofs.plans.plan_on.Given as goal

abbrev pub invariant-loop-command : goal.invariant-loop-command
invariant-loop-command g l = record {
  settled : l.desk.state.settled ≡ l.fn.desk.state.settled;
  planned : IsClear g.S.BlockSource.may_give l.desk → plan_all l.fn.desk.state.settled.roster (tree_with_ready l.fn.desk.state) l.user l.commands
      ≡ and_behind l.planned.items (plan_all l.fn.desk.state.settled.roster (tree_with_ready l.desk.state) l.user (drop l.command-index l.commands));
  asks : Asks g.S.BlockSource.may_give g.S.BlockSource.follows l.fn.desk l.desk;
}
