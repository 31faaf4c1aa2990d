use Rattle.su_format.proofs.Public.{then_took, then_refused, first_refused, made, handed_on}
use Rattle.su_version.specs.Version.{carried_format}
use Rattle.su_version.proofs.versions.read_carried.Goals as goal

pub returns-in_err-group : goal.returns-in_err-group
unfolding carried_format
returns-in_err-group c = handed_on _ _ c.from_residual.ensures.1 (first_refused _ _ c.in_err-group.ensures)

pub returns-in_err-handle : goal.returns-in_err-handle
unfolding carried_format
returns-in_err-handle c =
    handed_on _ _ c.from_residual-in_err-handle.ensures.1
    (then_refused _ _ c.in_ok-group.ensures (first_refused _ _ c.in_err-handle.ensures.takes))

pub returns : goal.returns
unfolding carried_format
returns c = then_took _ _ c.in_ok-group.ensures (then_took _ _ c.in_ok-handle.ensures.takes (made _ _))
