use Rattle.std.proofs.Common.{◌∙◌, ◌++◌, codes, refl}
use Rattle.std.specs.Fmt.{decimal}
use Rattle.std.specs.String.{string_bytes}
use Rattle.su_history_text.specs.Text.{together_text}
use Rattle.su_history_text.proofs.Pieces.{of_five, told-as}
use Rattle.su_history_text.proofs.Staying.{stays-append, stays-decimal, stays-told}
use Rattle.su_history_text.proofs.deeds.together_text.Goals as goal

pub returns-clause-value : goal.returns-clause-value
returns-clause-value c =
    let n = decimal c.args.operations in
    let s = string_bytes c.in_ok-size.size in
    told-as string_bytes c.format.result (codes "did " ++ (n ++ (codes " operations together (" ++ (s ++ codes ")")))) (together_text c.args.operations c.args.bytes) c.format.ensures.ok
    (of_five (codes "did ") n (codes " operations together (") s (codes ")")
    ∙ (λ i. codes "did " ++ n ++ codes " operations together (" ++ c.in_ok-size.ensures.value i ++ codes ")"))

pub returns-clause-line : goal.returns-clause-line
returns-clause-line c =
    let n = decimal c.args.operations in
    let s = string_bytes c.in_ok-size.size in
    stays-told string_bytes c.format.result (codes "did " ++ (n ++ (codes " operations together (" ++ (s ++ codes ")")))) c.format.ensures.ok
    (stays-append n (codes " operations together (" ++ (s ++ codes ")")) (stays-decimal c.args.operations) (stays-append s (codes ")") c.in_ok-size.ensures.line refl))
