use Rattle.std.proofs.Common.{◌∙◌, [], ◌∷◌, ◌++◌, ap, take, sym, subst}
use Rattle.std.specs.String.{string_bytes}
use Rattle.su_history_text.specs.Text.{line_text_at}
use Rattle.su_history_text.proofs.SoFar.{IsToldOf, next_line, one_told_more}
use Rattle.su_history_text.proofs.lines.history_text.Goals as goal

pub loop-line-preserved : goal.loop-line-preserved
loop-line-preserved c =
    let team = c.args.team.now in
    let names = c.args.names.now in
    let ls = take c.loop-line.line-index c.args.lines.now in
    let told = c.in_ok-told.ensures.value ∙ ap (λ w. line_text_at w team names c.line-item.result) c.longest_name-width.ensures in
    let pushed = c.in_ok-push_str.ensures.bytes ∙ ap (λ t. string_bytes c.loop-line.text ++ t) c.as_str.ensures.value in
    let joined = c.in_ok-push_str-2.ensures.bytes ∙ ap (λ t. t ++ 10 ∷ []) pushed in
    subst (λ it. IsToldOf team names it (string_bytes c.push_str-in-loop-line.new.self)) (sym (next_line c.args.lines.now c.loop-line.line-index c.line-item.result c.loop-line-test.true c.line-item.is))
    (one_told_more team names ls c.line-item.result (string_bytes c.loop-line.text) (string_bytes c.in_ok-told.told) (string_bytes c.push_str-in-loop-line.new.self) c.loop-line.invariant told c.in_ok-told.ensures.line joined)
