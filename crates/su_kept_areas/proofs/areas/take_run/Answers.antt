use Rattle.su_format.proofs.Public.{then_took, then_refused, first_refused, made, handed_on}
use Rattle.su_kept_areas.specs.Format.{run_format}
use Rattle.su_kept_areas.proofs.areas.take_run.Goals as goal

pub returns-in_err-first-clause-takes : goal.returns-in_err-first-clause-takes
unfolding run_format
returns-in_err-first-clause-takes c = handed_on _ _ c.from_residual.ensures.1 (first_refused _ _ c.in_err-first.ensures.takes)

pub returns-in_err-more-clause-takes : goal.returns-in_err-more-clause-takes
unfolding run_format
returns-in_err-more-clause-takes c =
    handed_on _ _ c.from_residual-in_err-more.ensures.1 (then_refused _ _ c.in_ok-first.ensures.takes (first_refused _ _ c.in_err-more.ensures.takes))

pub returns-clause-takes : goal.returns-clause-takes
unfolding run_format
returns-clause-takes c = then_took _ _ c.in_ok-first.ensures.takes (then_took _ _ c.in_ok-more.ensures.takes (made _ _))
