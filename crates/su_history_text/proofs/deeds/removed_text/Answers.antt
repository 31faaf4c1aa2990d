use Rattle.std.proofs.Common.{◌∙◌, ◌++◌, codes}
use Rattle.std.specs.String.{string_bytes}
use Rattle.su_history_text.specs.Text.{removed_text}
use Rattle.su_history_text.proofs.Pieces.{of_four, told-as}
use Rattle.su_history_text.proofs.Staying.{stays-append, stays-told}
use Rattle.su_history_text.proofs.deeds.removed_text.Goals as goal

pub returns-clause-value : goal.returns-clause-value
returns-clause-value c =
    let n = string_bytes c.in_ok-name.name in
    let d = string_bytes c.in_ok-folder.folder in
    told-as string_bytes c.format.result (codes "took the name " ++ (n ++ (codes " out of " ++ d))) (removed_text c.args.names.now c.args.unlink.now) c.format.ensures.ok
    (of_four (codes "took the name ") n (codes " out of ") d
    ∙ (λ i. codes "took the name " ++ c.in_ok-name.ensures.value i ++ codes " out of " ++ c.in_ok-folder.ensures.value i))

pub returns-clause-line : goal.returns-clause-line
returns-clause-line c =
    let n = string_bytes c.in_ok-name.name in
    let d = string_bytes c.in_ok-folder.folder in
    stays-told string_bytes c.format.result (codes "took the name " ++ (n ++ (codes " out of " ++ d))) c.format.ensures.ok
    (stays-append n (codes " out of " ++ d) c.in_ok-name.ensures.line c.in_ok-folder.ensures.line)
