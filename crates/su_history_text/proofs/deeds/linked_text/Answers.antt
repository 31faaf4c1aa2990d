use Rattle.std.proofs.Common.{◌∙◌, ◌++◌, codes}
use Rattle.std.specs.String.{string_bytes}
use Rattle.su_history_text.specs.Text.{linked_text}
use Rattle.su_history_text.proofs.Pieces.{of_six, told-as}
use Rattle.su_history_text.proofs.Staying.{stays-append, stays-told}
use Rattle.su_history_text.proofs.deeds.linked_text.Goals as goal

pub returns-clause-value : goal.returns-clause-value
returns-clause-value c =
    let f = string_bytes c.in_ok-file.file in
    let n = string_bytes c.in_ok-name.name in
    let d = string_bytes c.in_ok-folder.folder in
    told-as string_bytes c.format.result (codes "gave " ++ (f ++ (codes " a further name, " ++ (n ++ (codes " in " ++ d))))) (linked_text c.args.names.now c.args.link.now) c.format.ensures.ok
    (of_six (codes "gave ") f (codes " a further name, ") n (codes " in ") d
    ∙ (λ i. codes "gave " ++ c.in_ok-file.ensures.value i ++ codes " a further name, " ++ c.in_ok-name.ensures.value i ++ codes " in " ++ c.in_ok-folder.ensures.value i))

pub returns-clause-line : goal.returns-clause-line
returns-clause-line c =
    let f = string_bytes c.in_ok-file.file in
    let n = string_bytes c.in_ok-name.name in
    let d = string_bytes c.in_ok-folder.folder in
    stays-told string_bytes c.format.result (codes "gave " ++ (f ++ (codes " a further name, " ++ (n ++ (codes " in " ++ d))))) c.format.ensures.ok
    (stays-append f (codes " a further name, " ++ (n ++ (codes " in " ++ d))) c.in_ok-file.ensures.line (stays-append n (codes " in " ++ d) c.in_ok-name.ensures.line c.in_ok-folder.ensures.line))
