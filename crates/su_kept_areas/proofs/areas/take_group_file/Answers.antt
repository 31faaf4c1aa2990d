use Rattle.su_format.proofs.Public.{then_took, then_refused, first_refused, made, handed_on}
use Rattle.su_kept_areas.specs.Format.{group_file_format}
use Rattle.su_kept_areas.proofs.areas.take_group_file.Goals as goal

pub returns-in_err-group-clause-takes : goal.returns-in_err-group-clause-takes
unfolding group_file_format
returns-in_err-group-clause-takes c = handed_on _ _ c.from_residual.ensures.1 (first_refused _ _ c.in_err-group.ensures.takes)

pub returns-in_err-number-clause-takes : goal.returns-in_err-number-clause-takes
unfolding group_file_format
returns-in_err-number-clause-takes c =
    handed_on _ _ c.from_residual-in_err-number.ensures.1 (then_refused _ _ c.in_ok-group.ensures.takes (first_refused _ _ c.in_err-number.ensures.takes))

pub returns-clause-takes : goal.returns-clause-takes
unfolding group_file_format
returns-clause-takes c = then_took _ _ c.in_ok-group.ensures.takes (then_took _ _ c.in_ok-number.ensures.takes (made _ _))
