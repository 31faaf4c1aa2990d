use Rattle.std.proofs.Common.{IfErr}
use Rattle.std.specs.Prelude.{Result, Ok, Err}
use Rattle.std.proofs.lemmas.Result.{IfOk-weaker}
use Rattle.su_format.specs.Reading.{Refuses}
use Rattle.su_format.proofs.Public.{then_took, then_refused, first_refused, handed_on_to}
use Rattle.su_kept_areas.specs.Format.{area_format, fields_format}
use Rattle.su_kept_areas.proofs.areas.take_lent.Goals as goal

err_weaker : {X E : Type 0} (r : Result X E) (P Q : E → Type 0) → ((e : E) → P e → Q e) → IfErr r P → IfErr r Q
err_weaker (Ok x) P Q f holds = holds
err_weaker (Err e) P Q f holds = f e holds

pub returns-in_err-kind-clause-refused : goal.returns-in_err-kind-clause-refused
unfolding area_format
returns-in_err-kind-clause-refused c =
    handed_on_to (λ r. IfErr r (λ e. Refuses area_format c.args.reader.now e)) _ _ c.from_residual.ensures.1 (first_refused _ _ c.in_err-kind.ensures.takes)

pub returns-clause-value : goal.returns-clause-value
unfolding area_format
returns-clause-value c = IfOk-weaker c.take_fields.result _ _ (λ area took. then_took _ _ c.in_ok-kind.ensures.takes took) c.take_fields.ensures.value

pub returns-clause-refused : goal.returns-clause-refused
unfolding area_format
returns-clause-refused c =
    err_weaker c.take_fields.result (λ e. Refuses (fields_format c.in_ok-kind.kind) c.take_kind.new.reader e) (λ e. Refuses area_format c.args.reader.now e)
    (λ e refused. then_refused _ _ c.in_ok-kind.ensures.takes refused) c.take_fields.ensures.refused
