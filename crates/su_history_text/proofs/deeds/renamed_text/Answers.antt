use Rattle.std.proofs.Common.{◌∙◌, ◌++◌, codes, sym}
use Rattle.std.specs.String.{string_bytes}
use Rattle.su_history_text.specs.Text.{renamed_text}
use Rattle.su_history_text.proofs.Pieces.{of_six, of_eight, renaming, moving, told-as}
use Rattle.su_history_text.proofs.Staying.{stays-append, stays-told}
use Rattle.su_history_text.proofs.deeds.renamed_text.Goals as goal

pub returns-then-is_same-clause-value : goal.returns-then-is_same-clause-value
returns-then-is_same-clause-value c =
    let o = string_bytes c.in_ok-old_.old_ in
    let n = string_bytes c.in_ok-new_.new_ in
    let s = string_bytes c.in_ok-source.source in
    told-as string_bytes c.format.result (codes "renamed " ++ (o ++ (codes " in " ++ (s ++ (codes " to " ++ n))))) (renamed_text c.args.names.now c.args.rename.now) c.format.ensures.ok
    (of_six (codes "renamed ") o (codes " in ") s (codes " to ") n
    ∙ (λ i. codes "renamed " ++ c.in_ok-old_.ensures.value i ++ codes " in " ++ c.in_ok-source.ensures.value i ++ codes " to " ++ c.in_ok-new_.ensures.value i)
    ∙ renaming c.args.names.now c.args.rename.now (sym c.is_same.ensures ∙ c.if-is_same.true))

pub returns-then-is_same-clause-line : goal.returns-then-is_same-clause-line
returns-then-is_same-clause-line c =
    let o = string_bytes c.in_ok-old_.old_ in
    let n = string_bytes c.in_ok-new_.new_ in
    let s = string_bytes c.in_ok-source.source in
    stays-told string_bytes c.format.result (codes "renamed " ++ (o ++ (codes " in " ++ (s ++ (codes " to " ++ n))))) c.format.ensures.ok
    (stays-append o (codes " in " ++ (s ++ (codes " to " ++ n))) c.in_ok-old_.ensures.line (stays-append s (codes " to " ++ n) c.in_ok-source.ensures.line c.in_ok-new_.ensures.line))

pub returns-clause-value : goal.returns-clause-value
returns-clause-value c =
    let o = string_bytes c.in_ok-old_.old_ in
    let n = string_bytes c.in_ok-new_.new_ in
    let s = string_bytes c.in_ok-source.source in
    let t = string_bytes c.in_ok-target.target in
    told-as string_bytes c.format-2.result (codes "moved " ++ (o ++ (codes " in " ++ (s ++ (codes " to " ++ (n ++ (codes " in " ++ t))))))) (renamed_text c.args.names.now c.args.rename.now) c.format-2.ensures.ok
    (of_eight (codes "moved ") o (codes " in ") s (codes " to ") n (codes " in ") t
    ∙ (λ i. codes "moved " ++ c.in_ok-old_.ensures.value i ++ codes " in " ++ c.in_ok-source.ensures.value i ++ codes " to " ++ c.in_ok-new_.ensures.value i ++ codes " in " ++ c.in_ok-target.ensures.value i)
    ∙ moving c.args.names.now c.args.rename.now (sym c.is_same.ensures ∙ c.if-is_same.false))

pub returns-clause-line : goal.returns-clause-line
returns-clause-line c =
    let o = string_bytes c.in_ok-old_.old_ in
    let n = string_bytes c.in_ok-new_.new_ in
    let s = string_bytes c.in_ok-source.source in
    let t = string_bytes c.in_ok-target.target in
    stays-told string_bytes c.format-2.result (codes "moved " ++ (o ++ (codes " in " ++ (s ++ (codes " to " ++ (n ++ (codes " in " ++ t))))))) c.format-2.ensures.ok
    (stays-append o (codes " in " ++ (s ++ (codes " to " ++ (n ++ (codes " in " ++ t))))) c.in_ok-old_.ensures.line
    (stays-append s (codes " to " ++ (n ++ (codes " in " ++ t))) c.in_ok-source.ensures.line (stays-append n (codes " in " ++ t) c.in_ok-new_.ensures.line c.in_ok-target.ensures.line)))
