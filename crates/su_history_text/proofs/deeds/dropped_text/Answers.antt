use Rattle.std.proofs.Common.{◌++◌, codes, refl}
use Rattle.std.specs.Fmt.{decimal}
use Rattle.std.specs.String.{string_bytes}
use Rattle.su_history_text.proofs.Staying.{stays-append, stays-decimal, stays-told}
use Rattle.su_history_text.proofs.deeds.dropped_text.Goals as goal

pub returns-clause-line : goal.returns-clause-line
returns-clause-line c =
    let n = c.number-number.result in
    stays-told string_bytes c.format.result (codes "dropped an old copy, number " ++ (decimal n ++ codes " of its own")) c.format.ensures.ok
    (stays-append (decimal n) (codes " of its own") (stays-decimal n) refl)
