use Rattle.std.proofs.Common.{sym, ap, subst}
use Rattle.su_desk.specs.Desk.{DeskState}
use Rattle.su_desk.specs.Trial.{tree_of}
use Rattle.su_stored_desk.specs.Asked.{IsClear}
use Rattle.su_stored_desk.specs.Right.{state_of}
use Rattle.su_stored_desk.proofs.Clearness.{known}
use Rattle.su_stored_desk.proofs.StandingReady.{alone}
use Rattle.su_stored_desk.proofs.trials.TrialDesk.i_handle.Goals as goal
use Rattle.su_stored_forest.specs.Shows.{Holds}

pub returns : goal.returns
returns g c clear =
    let s = c.self.inside in
    let v = c.args.self.now.state in
    let m = g.S.BlockSource.may_give in
    let k = known m s.desk s.tried.items s.asked.items v (ap (λ t. t.state) c.self.view_is) c.self.invariant in
    let right = k.right (subst (IsClear m) (sym c.self.view_is) clear) in
    c.i_handle.ensures (tree_of v.settled) (subst (λ (d : DeskState). Holds s.desk.stored (tree_of d)) (alone (state_of s.desk) s.tried.items v k.seen c.requires) right.holds)
