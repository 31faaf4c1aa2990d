use Rattle.std.proofs.Common.{subst}
use Rattle.su_stored_desk.specs.Right.{state_of}
use Rattle.su_stored_desk.specs.Tried.{TakesChangeBack}
use Rattle.su_stored_desk.proofs.TrialLemmas.{of_action, of_rekey, of_undo}
use Rattle.su_stored_desk.proofs.desks.Desk.take_back.Goals as goal

pub returns-in-Ok-clause-right : goal.returns-in-Ok-clause-right
returns-in-Ok-clause-right g c sure (d, e, is, back) =
    let (x, was) = of_action d (state_of c.args.self.now) e is (subst (TakesChangeBack d e e.change) c.in-Kept.is back.change) in
    c.take_operation_back.ensures.right d x sure was back.versions

pub returns-in-Err-clause-right : goal.returns-in-Err-clause-right
returns-in-Err-clause-right g c sure (d, e, is, back) =
    let (x, was) = of_action d (state_of c.args.self.now) e is (subst (TakesChangeBack d e e.change) c.in-Kept.is back.change) in
    c.take_operation_back.ensures.right d x sure was back.versions

pub returns-in-Err-clause-refused : goal.returns-in-Err-clause-refused
returns-in-Err-clause-refused g c sure (d, e, is, back) =
    let (x, was) = of_action d (state_of c.args.self.now) e is (subst (TakesChangeBack d e e.change) c.in-Kept.is back.change) in
    c.in-Err.ensures.refused d x sure was

pub returns-in-Ok-take_undo_back-clause-right : goal.returns-in-Ok-take_undo_back-clause-right
returns-in-Ok-take_undo_back-clause-right g c sure (d, e, is, back) =
    let (n, undo, u) = of_undo d e _ (subst (TakesChangeBack d e e.change) c.in-Held.is back.change) in
    c.take_undo_back.ensures.right d e n sure undo is back.versions u

pub returns-in-Err-take_undo_back-clause-right : goal.returns-in-Err-take_undo_back-clause-right
returns-in-Err-take_undo_back-clause-right g c sure (d, e, is, back) =
    let (n, undo, u) = of_undo d e _ (subst (TakesChangeBack d e e.change) c.in-Held.is back.change) in
    c.take_undo_back.ensures.right d e n sure undo is back.versions u

pub returns-in-Err-take_undo_back-clause-refused : goal.returns-in-Err-take_undo_back-clause-refused
returns-in-Err-take_undo_back-clause-refused g c sure (d, e, is, back) =
    let (n, undo, u) = of_undo d e _ (subst (TakesChangeBack d e e.change) c.in-Held.is back.change) in
    c.in-Err-take_undo_back.ensures.refused d e n sure is u

pub returns-in-Named-clause-right : goal.returns-in-Named-clause-right
returns-in-Named-clause-right g c sure (d, e, is, back) =
    c.take_key_back.ensures.right d e sure.right (of_rekey d e _ (subst (TakesChangeBack d e e.change) c.in-Named.is back.change)) is back.versions
