use Rattle.std.proofs.Common.{IfErr}
use Rattle.su_format.specs.Reading.{Refuses}
use Rattle.su_format.proofs.Public.{then_took, first_refused, made, handed_on_to}
use Rattle.su_kept_areas.specs.declared.kinds.PartKind.TheVariants.{Blocks}
use Rattle.su_kept_areas.specs.Format.{part_format}
use Rattle.su_kept_areas.proofs.areas.take_part.Goals as goal

pub returns-in-Kind-clause-value : goal.returns-in-Kind-clause-value
unfolding part_format
returns-in-Kind-clause-value c = rw c.in-Kind.is (made _ _)

pub returns-in-Links-clause-value : goal.returns-in-Links-clause-value
unfolding part_format
returns-in-Links-clause-value c = rw c.in-Links.is (made _ _)

pub returns-in-Size-clause-value : goal.returns-in-Size-clause-value
unfolding part_format
returns-in-Size-clause-value c = rw c.in-Size.is (made _ _)

pub returns-in-Whole-clause-value : goal.returns-in-Whole-clause-value
unfolding part_format
returns-in-Whole-clause-value c = rw c.in-Whole.is (made _ _)

pub returns-in_err-run-in-Blocks-clause-refused : goal.returns-in_err-run-in-Blocks-clause-refused
unfolding part_format
returns-in_err-run-in-Blocks-clause-refused c =
    rw c.in-Blocks.is
    (handed_on_to (λ r. IfErr r (λ e. Refuses (part_format Blocks) c.args.reader.now e)) _ _ c.from_residual.ensures.1 (first_refused _ _ c.in_err-run-in-Blocks.ensures.takes))

pub returns-in_ok-run-in-Blocks-clause-value : goal.returns-in_ok-run-in-Blocks-clause-value
unfolding part_format
returns-in_ok-run-in-Blocks-clause-value c = rw c.in-Blocks.is (then_took _ _ c.in_ok-run-in-Blocks.ensures.takes (made _ _))

pub returns-in-Ok-clause-value : goal.returns-in-Ok-clause-value
unfolding part_format
returns-in-Ok-clause-value c = rw c.in-Name.is (then_took _ _ c.in-Ok.ensures.value (made _ _))

pub returns-in-Err-clause-refused : goal.returns-in-Err-clause-refused
unfolding part_format
returns-in-Err-clause-refused c = rw c.in-Name.is (first_refused _ _ c.in-Err.ensures.refused)
