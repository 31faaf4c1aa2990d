use Rattle.std.proofs.Common.{◌⊎◌, ℕ, List}
use Rattle.su_bytes.specs.Membership.{Membership}
use Rattle.su_table.specs.Tree.{Tree}
use Rattle.su_desk.specs.History.{NumberedAction}
use Rattle.su_stored_desk.specs.Hashed.{IsHashedAlong}
use Rattle.su_stored_desk.specs.Keeping.{Leads}
use Rattle.su_stored_desk.proofs.trials.leaving.leave_each.Given as goal

abbrev pub invariant-loop-earlier : goal.invariant-loop-earlier
invariant-loop-earlier g l = record {
  leads : (ro : Membership) (F T : Tree) (ts : List NumberedAction) → Leads ro F ts l.fn.kept T → Leads ro F ts l.kept T;
  more : (ro : Membership) (F T : Tree) (ts : List NumberedAction) → Leads ro F ts l.fn.kept T → (i : List ℕ) → g.S.BlockSource.may_give l.source i → g.S.BlockSource.may_give l.fn.source i ⊎ IsHashedAlong ro F ts i;
  follows : g.S.BlockSource.follows l.fn.source l.source;
}
