use Rattle.std.proofs.Common.{◌≡◌, ◌∙◌, ◌++◌, ap, codes}
use Rattle.std.specs.String.{string_bytes}
use Rattle.su_history_text.specs.Parts.{size_text}
use Rattle.su_history_text.specs.Text.{cut_text}
use Rattle.su_history_text.proofs.Pieces.{of_four, told-as}
use Rattle.su_history_text.proofs.Staying.{stays-append, stays-told}
use Rattle.su_history_text.proofs.deeds.cut_text.Goals as goal

pub returns-clause-value : goal.returns-clause-value
returns-clause-value c =
    let f = string_bytes c.in_ok-file.file in
    let s = string_bytes c.in_ok-size.size in
    let size : s ≡ size_text c.args.truncate.now.size = c.in_ok-size.ensures.value ∙ ap size_text c.from.ensures in
    told-as string_bytes c.format.result (codes "set the size of " ++ (f ++ (codes " to " ++ s))) (cut_text c.args.names.now c.args.truncate.now) c.format.ensures.ok
    (of_four (codes "set the size of ") f (codes " to ") s
    ∙ (λ i. codes "set the size of " ++ c.in_ok-file.ensures.value i ++ codes " to " ++ size i))

pub returns-clause-line : goal.returns-clause-line
returns-clause-line c =
    let f = string_bytes c.in_ok-file.file in
    let s = string_bytes c.in_ok-size.size in
    stays-told string_bytes c.format.result (codes "set the size of " ++ (f ++ (codes " to " ++ s))) c.format.ensures.ok
    (stays-append f (codes " to " ++ s) c.in_ok-file.ensures.line c.in_ok-size.ensures.line)
