use Rattle.su_format.proofs.Public.{then_took, then_refused, first_refused, made, handed_on}
use Rattle.su_change.specs.Create.{create_fields}
use Rattle.su_change.proofs.create.read.Goals as goal

pub returns-in_err-dir : goal.returns-in_err-dir
unfolding create_fields
returns-in_err-dir c = handed_on _ _ c.from_residual.ensures.1 (first_refused _ _ c.in_err-dir.ensures)

pub returns-in_err-body : goal.returns-in_err-body
unfolding create_fields
returns-in_err-body c =
    handed_on _ _ c.from_residual-in_err-body.ensures.1
    (then_refused _ _ c.in_ok-dir.ensures (first_refused _ _ c.in_err-body.ensures.takes))

pub returns-in_err-kind : goal.returns-in_err-kind
unfolding create_fields
returns-in_err-kind c =
    handed_on _ _ c.from_residual-in_err-kind.ensures.1
    (then_refused _ _ c.in_ok-dir.ensures (then_refused _ _ c.in_ok-body.ensures.takes (first_refused _ _ c.in_err-kind.ensures.takes)))

pub returns : goal.returns
unfolding create_fields
returns c = then_took _ _ c.in_ok-dir.ensures (then_took _ _ c.in_ok-body.ensures.takes (then_took _ _ c.in_ok-kind.ensures.takes (made _ _)))
