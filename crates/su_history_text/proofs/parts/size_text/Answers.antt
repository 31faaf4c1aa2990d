use Rattle.std.proofs.Common.{◌++◌, codes, refl}
use Rattle.std.specs.Fmt.{decimal}
use Rattle.std.specs.String.{string_bytes}
use Rattle.su_history_text.proofs.Staying.{stays-append, stays-decimal, stays-told}
use Rattle.su_history_text.proofs.parts.size_text.Goals as goal

pub returns-then-bytes-eq1-clause-line : goal.returns-then-bytes-eq1-clause-line
returns-then-bytes-eq1-clause-line c =
    stays-told string_bytes c.format.result (decimal c.args.bytes ++ codes " byte") c.format.ensures.ok
    (stays-append (decimal c.args.bytes) (codes " byte") (stays-decimal c.args.bytes) refl)

pub returns-else-bytes-eq1-clause-line : goal.returns-else-bytes-eq1-clause-line
returns-else-bytes-eq1-clause-line c =
    stays-told string_bytes c.format-else-bytes-eq1.result (decimal c.args.bytes ++ codes " bytes") c.format-else-bytes-eq1.ensures.ok
    (stays-append (decimal c.args.bytes) (codes " bytes") (stays-decimal c.args.bytes) refl)
