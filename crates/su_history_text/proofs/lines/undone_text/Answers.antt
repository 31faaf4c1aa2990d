use Rattle.std.proofs.Common.{◌++◌, codes, refl}
use Rattle.std.specs.Fmt.{decimal}
use Rattle.std.specs.String.{string_bytes}
use Rattle.su_history_text.proofs.Staying.{stays-append, stays-decimal, stays-told}
use Rattle.su_history_text.proofs.lines.undone_text.Goals as goal

pub returns-then-first-last-clause-line : goal.returns-then-first-last-clause-line
returns-then-first-last-clause-line c =
    stays-told string_bytes c.format.result (codes " (undone by " ++ (decimal c.args.by ++ codes ")")) c.format.ensures.ok
    (stays-append (decimal c.args.by) (codes ")") (stays-decimal c.args.by) refl)

pub returns-else-first-last-clause-line : goal.returns-else-first-last-clause-line
returns-else-first-last-clause-line c =
    stays-told string_bytes c.format-else-first-last.result (codes " (undone, the last by " ++ (decimal c.args.by ++ codes ")")) c.format-else-first-last.ensures.ok
    (stays-append (decimal c.args.by) (codes ")") (stays-decimal c.args.by) refl)
