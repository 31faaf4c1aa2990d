use Rattle.std.proofs.Common.{sym, subst, ◌∙◌}
use Rattle.std.proofs.lemmas.Result.{IfOk-weaker}
use Rattle.su_kept_areas.specs.Spelling.{IsArea}
use Rattle.su_kept_areas.proofs.Formats.{area_told, area_refused}
use Rattle.su_kept_areas.proofs.areas.take_area.Goals as goal

pub returns-in-Ok-clause-value : goal.returns-in-Ok-clause-value
returns-in-Ok-clause-value c a rest begins =
    let told = area_told _ a _ rest _ begins c.in-Ok.ensures.value.spelled in
    IfOk-weaker c.to_area.result _ _ (λ area is. (is ∙ told.0, told.1)) c.to_area.ensures.value

pub returns-in-Ok-clause-refused : goal.returns-in-Ok-clause-refused
returns-in-Ok-clause-refused c a rest begins =
    let told = area_told _ a _ rest _ begins c.in-Ok.ensures.value.spelled in
    c.to_area.ensures.refused (subst IsArea (sym told.0) begins.is)

pub returns-in-Err-clause-refused : goal.returns-in-Err-clause-refused
returns-in-Err-clause-refused c a rest begins = area_refused c.args.reader.now c.in-Err.refusal a rest begins c.in-Err.ensures.refused
