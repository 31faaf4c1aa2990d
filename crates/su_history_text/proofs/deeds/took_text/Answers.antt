use Rattle.std.proofs.Common.{◌++◌, codes, refl}
use Rattle.std.specs.String.{string_bytes}
use Rattle.su_history_text.proofs.Staying.{stays-append, stays-told}
use Rattle.su_history_text.proofs.deeds.took_text.Goals as goal

pub returns-clause-line : goal.returns-clause-line
returns-clause-line c =
    let f = string_bytes c.in_ok-file.file in
    stays-told string_bytes c.format.result (codes "took " ++ (f ++ codes " over")) c.format.ensures.ok
    (stays-append f (codes " over") c.in_ok-file.ensures.line refl)
