use Rattle.std.proofs.Common.{◌∙◌, ◌++◌, ap, codes}
use Rattle.std.specs.String.{string_bytes}
use Rattle.su_history_text.specs.Parts.{padded}
use Rattle.su_history_text.specs.Text.{line_text_at}
use Rattle.su_history_text.proofs.Pieces.{of_six, told-as}
use Rattle.su_history_text.proofs.Staying.{stays-append, stays-told}
use Rattle.su_history_text.proofs.lines.line_text_at.Goals as goal

pub returns-clause-value : goal.returns-clause-value
returns-clause-value c =
    let n = string_bytes c.in_ok-numbers.numbers in
    let a = string_bytes c.in_ok-author.author in
    let d = string_bytes c.in_ok-deed.deed in
    let f = string_bytes c.in_ok-fate.fate in
    let numbers = c.in_ok-numbers.ensures.value ∙ ap (padded 10) c.in_ok-numbers_text.ensures.value in
    let author = c.in_ok-author.ensures.value ∙ ap (padded c.args.width) c.in_ok-author_text.ensures.value in
    told-as string_bytes c.format.result (n ++ (codes " " ++ (a ++ (codes "  " ++ (d ++ f)))))
    (line_text_at c.args.width c.args.team.now c.args.names.now c.args.line.now) c.format.ensures.ok
    (of_six n (codes " ") a (codes "  ") d f
    ∙ (λ i. numbers i ++ codes " " ++ author i ++ codes "  " ++ c.in_ok-deed.ensures.value i ++ c.in_ok-fate.ensures.value i))

pub returns-clause-line : goal.returns-clause-line
returns-clause-line c =
    let n = string_bytes c.in_ok-numbers.numbers in
    let a = string_bytes c.in_ok-author.author in
    let d = string_bytes c.in_ok-deed.deed in
    let f = string_bytes c.in_ok-fate.fate in
    stays-told string_bytes c.format.result (n ++ (codes " " ++ (a ++ (codes "  " ++ (d ++ f))))) c.format.ensures.ok
    (stays-append n (codes " " ++ (a ++ (codes "  " ++ (d ++ f)))) c.in_ok-numbers.ensures.line
    (stays-append a (codes "  " ++ (d ++ f)) c.in_ok-author.ensures.line (stays-append d f c.in_ok-deed.ensures.line c.in_ok-fate.ensures.line)))
