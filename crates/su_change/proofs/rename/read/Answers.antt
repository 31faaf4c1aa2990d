use Rattle.su_format.proofs.Public.{then_took, then_refused, first_refused, made, handed_on}
use Rattle.su_change.specs.Rename.{rename_fields}
use Rattle.su_change.proofs.rename.read.Goals as goal

pub returns-in_err-from_ : goal.returns-in_err-from_
unfolding rename_fields
returns-in_err-from_ c = handed_on _ _ c.from_residual.ensures.1 (first_refused _ _ c.in_err-from_.ensures.takes)

pub returns-in_err-old_ : goal.returns-in_err-old_
unfolding rename_fields
returns-in_err-old_ c =
    handed_on _ _ c.from_residual-in_err-old_.ensures.1
    (then_refused _ _ c.in_ok-from_.ensures.takes (first_refused _ _ c.in_err-old_.ensures.takes))

pub returns-in_err-to_ : goal.returns-in_err-to_
unfolding rename_fields
returns-in_err-to_ c =
    handed_on _ _ c.from_residual-in_err-to_.ensures.1
    (then_refused _ _ c.in_ok-from_.ensures.takes (then_refused _ _ c.in_ok-old_.ensures.takes (first_refused _ _ c.in_err-to_.ensures.takes)))

pub returns-in_err-new_ : goal.returns-in_err-new_
unfolding rename_fields
returns-in_err-new_ c =
    handed_on _ _ c.from_residual-in_err-new_.ensures.1
    (then_refused _ _ c.in_ok-from_.ensures.takes (then_refused _ _ c.in_ok-old_.ensures.takes (then_refused _ _ c.in_ok-to_.ensures.takes (first_refused _ _ c.in_err-new_.ensures.takes))))

pub returns-in_err-file : goal.returns-in_err-file
unfolding rename_fields
returns-in_err-file c =
    handed_on _ _ c.from_residual-in_err-file.ensures.1
    (then_refused _ _ c.in_ok-from_.ensures.takes (then_refused _ _ c.in_ok-old_.ensures.takes (then_refused _ _ c.in_ok-to_.ensures.takes (then_refused _ _ c.in_ok-new_.ensures.takes (first_refused _ _ c.in_err-file.ensures.takes)))))

pub returns : goal.returns
unfolding rename_fields
returns c = then_took _ _ c.in_ok-from_.ensures.takes (then_took _ _ c.in_ok-old_.ensures.takes (then_took _ _ c.in_ok-to_.ensures.takes (then_took _ _ c.in_ok-new_.ensures.takes (then_took _ _ c.in_ok-file.ensures.takes (made _ _)))))
