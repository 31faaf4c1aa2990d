use Rattle.su_format.proofs.Public.{then_took, then_refused, first_refused, made, handed_on}
use Rattle.su_change.specs.NameAt.{name_at_format}
use Rattle.su_change.proofs.name_at.NameAt.read.Goals as goal

pub returns-in_err-dir : goal.returns-in_err-dir
unfolding name_at_format
returns-in_err-dir c = handed_on _ _ c.from_residual.ensures.1 (first_refused _ _ c.in_err-dir.ensures.takes)

pub returns-in_err-name : goal.returns-in_err-name
unfolding name_at_format
returns-in_err-name c =
    handed_on _ _ c.from_residual-in_err-name.ensures.1
    (then_refused _ _ c.in_ok-dir.ensures.takes (first_refused _ _ c.in_err-name.ensures.takes))

pub returns-in_err-file : goal.returns-in_err-file
unfolding name_at_format
returns-in_err-file c =
    handed_on _ _ c.from_residual-in_err-file.ensures.1
    (then_refused _ _ c.in_ok-dir.ensures.takes (then_refused _ _ c.in_ok-name.ensures.takes (first_refused _ _ c.in_err-file.ensures.takes)))

pub returns : goal.returns
unfolding name_at_format
returns c = then_took _ _ c.in_ok-dir.ensures.takes (then_took _ _ c.in_ok-name.ensures.takes (then_took _ _ c.in_ok-file.ensures.takes (made _ _)))
