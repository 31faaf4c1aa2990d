use Rattle.std.proofs.Common.{◌++◌, codes, refl}
use Rattle.std.specs.String.{string_bytes}
use Rattle.su_history_text.proofs.Staying.{stays-append, stays-told}
use Rattle.su_history_text.proofs.deeds.put_text.Goals as goal

pub returns-clause-line : goal.returns-clause-line
returns-clause-line c =
    let f = string_bytes c.in_ok-file.file in
    let s = string_bytes c.in_ok-size.size in
    stays-told string_bytes c.format.result (codes "put " ++ (f ++ (codes " (" ++ (s ++ codes ")")))) c.format.ensures.ok
    (stays-append f (codes " (" ++ (s ++ codes ")")) c.in_ok-file.ensures.line (stays-append s (codes ")") c.in_ok-size.ensures.line refl))
