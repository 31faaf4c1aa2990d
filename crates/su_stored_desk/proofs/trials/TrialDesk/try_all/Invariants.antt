use Rattle.std.proofs.Common.{◌≡◌, ◌++◌, take, drop}
use Rattle.su_op.specs.Batch.{action_by, effect, first_refusal}
use Rattle.su_desk.specs.Trial.{tree_with_ready}
use Rattle.su_stored_desk.specs.Asked.{Asks, IsClear}
use Rattle.su_stored_desk.specs.Joined.{each_alone, AllFit}
use Rattle.su_stored_desk.proofs.trials.TrialDesk.try_all.Given as goal

abbrev pub invariant-loop-operation : goal.invariant-loop-operation
invariant-loop-operation g l = record {
  settled : l.self.state.settled ≡ l.fn.self.state.settled;
  rest : IsClear g.S.BlockSource.may_give l.self
      → first_refusal l.fn.self.state.settled.roster (tree_with_ready l.fn.self.state) l.author l.format l.operations
      ≡ first_refusal l.fn.self.state.settled.roster (tree_with_ready l.self.state) l.author l.format (drop l.operation-index l.operations);
  effect : IsClear g.S.BlockSource.may_give l.self
      → effect l.fn.self.state.settled.roster (tree_with_ready l.fn.self.state) (action_by l.author l.format l.operations)
      ≡ effect l.fn.self.state.settled.roster (tree_with_ready l.self.state) (action_by l.author l.format (drop l.operation-index l.operations));
  ready : l.self.state.ready ≡ l.fn.self.state.ready ++ each_alone l.author l.format (take l.operation-index l.operations);
  fits : AllFit l.self.state l.format (drop l.operation-index l.operations);
  asks : Asks g.S.BlockSource.may_give g.S.BlockSource.follows l.fn.self l.self;
}
