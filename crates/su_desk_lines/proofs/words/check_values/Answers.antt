use Rattle.std.proofs.Common.{◌∙◌, ◌++◌, ap}
use Rattle.std.proofs.lemmas.Result.{err_from_is_err_and}
use Rattle.su_desk_lines.proofs.CheckingValues.{bad_word}
use Rattle.su_desk_lines.proofs.words.check_values.Goals as goal

pub returns-in_err-word-clause-refused : goal.returns-in_err-word-clause-refused
returns-in_err-word-clause-refused c =
    let p = err_from_is_err_and c.from_residual.result c.from_residual.ensures.1 in
    rw (p.1, p.2)
    (bad_word c.loop-value.yielded c.in-Some.value c.next.new.self.rest.items c.args.values.items c.in_err-word.field-0.0
    (c.loop-value.invariant.3 ∙ ap (λ rest. c.loop-value.yielded ++ rest) c.in-Some.ensures.steps.0) c.in_err-word.ensures.refused)
