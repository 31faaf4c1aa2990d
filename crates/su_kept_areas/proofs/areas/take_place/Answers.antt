use Rattle.su_format.proofs.Public.{then_took, then_refused, first_refused, made, handed_on}
use Rattle.su_kept_areas.specs.Format.{place_format}
use Rattle.su_kept_areas.proofs.areas.take_place.Goals as goal

pub returns-in_err-user-clause-takes : goal.returns-in_err-user-clause-takes
unfolding place_format
returns-in_err-user-clause-takes c = handed_on _ _ c.from_residual.ensures.1 (first_refused _ _ c.in_err-user.ensures.takes)

pub returns-in_err-number-clause-takes : goal.returns-in_err-number-clause-takes
unfolding place_format
returns-in_err-number-clause-takes c =
    handed_on _ _ c.from_residual-in_err-number.ensures.1 (then_refused _ _ c.in_ok-user.ensures.takes (first_refused _ _ c.in_err-number.ensures.takes))

pub returns-clause-takes : goal.returns-clause-takes
unfolding place_format
returns-clause-takes c = then_took _ _ c.in_ok-user.ensures.takes (then_took _ _ c.in_ok-number.ensures.takes (made _ _))
