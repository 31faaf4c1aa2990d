use Rattle.std.proofs.Common.{IfErr}
use Rattle.su_format.specs.Reading.{Refuses}
use Rattle.su_format.proofs.Public.{then_took, then_refused, first_refused, made, handed_on_to}
use Rattle.su_kept_areas.specs.Format.{short_format}
use Rattle.su_kept_areas.proofs.areas.take_short.Goals as goal

pub returns-in_err-count-clause-refused : goal.returns-in_err-count-clause-refused
unfolding short_format
returns-in_err-count-clause-refused c =
    handed_on_to (λ r. IfErr r (λ e. Refuses short_format c.args.reader.now e)) _ _ c.from_residual.ensures.1 (first_refused _ _ c.in_err-count.ensures.takes)

pub returns-in-Ok-clause-value : goal.returns-in-Ok-clause-value
unfolding short_format
returns-in-Ok-clause-value c = then_took _ _ c.in_ok-count.ensures.takes (then_took _ _ (rw c.from.ensures at c.in-Ok.ensures.found) (made _ _))

pub returns-in-Err-clause-refused : goal.returns-in-Err-clause-refused
unfolding short_format
returns-in-Err-clause-refused c =
    let refused = rw c.from.ensures at c.in-Err.ensures.refused in
    then_refused _ _ c.in_ok-count.ensures.takes (first_refused _ _ refused.0)
