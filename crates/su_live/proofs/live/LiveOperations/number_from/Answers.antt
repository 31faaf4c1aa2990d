use Rattle.std.proofs.Common.{sym}
use Rattle.su_live.proofs.LiveLemmas.{ascend_in, first_goes_first, none_cut}
use Rattle.su_live.proofs.live.LiveOperations.number_from.Goals as goal

pub returns-in-Some-clause-some : goal.returns-in-Some-clause-some
returns-in-Some-clause-some g c =
    (first_goes_first c.args.number c.in-Some.operation.now c.args.self.now (ascend_in _ _ _ _ c.self.invariant c.self.view_is) (sym c.in-Some.ensures)).fewer

pub returns-in-Some-clause-same : goal.returns-in-Some-clause-same
returns-in-Some-clause-same g c =
    (first_goes_first c.args.number c.in-Some.operation.now c.args.self.now (ascend_in _ _ _ _ c.self.invariant c.self.view_is) (sym c.in-Some.ensures)).same

pub returns-in-None-clause-none : goal.returns-in-None-clause-none
returns-in-None-clause-none g c = none_cut c.args.number c.args.self.now (sym c.in-None.ensures)
