use Rattle.su_format.proofs.Public.{then_took, then_refused, first_refused, made, handed_on}
use Rattle.su_change.specs.Outline.{place_fields}
use Rattle.su_change.proofs.outlines.read_place.Goals as goal

pub returns-in_err-file : goal.returns-in_err-file
unfolding place_fields
returns-in_err-file c = handed_on _ _ c.from_residual.ensures.1 (first_refused _ _ c.in_err-file.ensures.takes)

pub returns-in_err-off : goal.returns-in_err-off
unfolding place_fields
returns-in_err-off c =
    handed_on _ _ c.from_residual-in_err-off.ensures.1
    (then_refused _ _ c.in_ok-file.ensures.takes (first_refused _ _ c.in_err-off.ensures.takes))

pub returns : goal.returns
unfolding place_fields
returns c = rw c.new.ensures.items (then_took _ _ c.in_ok-file.ensures.takes (then_took _ _ c.in_ok-off.ensures.takes (made _ _)))
