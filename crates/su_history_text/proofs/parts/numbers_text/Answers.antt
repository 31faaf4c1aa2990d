use Rattle.std.proofs.Common.{◌++◌, codes}
use Rattle.std.specs.Fmt.{decimal}
use Rattle.std.specs.String.{string_bytes}
use Rattle.su_history_text.specs.Parts.{numbers_text}
use Rattle.su_history_text.proofs.Pieces.{told-as, two_numbers}
use Rattle.su_history_text.proofs.Staying.{stays-append, stays-decimal, stays-told}
use Rattle.su_history_text.proofs.parts.numbers_text.Goals as goal

pub returns-then-first-last-clause-line : goal.returns-then-first-last-clause-line
returns-then-first-last-clause-line c =
    stays-told string_bytes c.format.result (decimal c.args.first) c.format.ensures.ok (stays-decimal c.args.first)

pub returns-else-first-last-clause-value : goal.returns-else-first-last-clause-value
returns-else-first-last-clause-value c =
    told-as string_bytes c.format-else-first-last.result (decimal c.args.first ++ (codes ".." ++ decimal c.args.last)) (numbers_text c.args.first c.args.last)
    c.format-else-first-last.ensures.ok (two_numbers c.args.first c.args.last c.if-first-last.false)

pub returns-else-first-last-clause-line : goal.returns-else-first-last-clause-line
returns-else-first-last-clause-line c =
    stays-told string_bytes c.format-else-first-last.result (decimal c.args.first ++ (codes ".." ++ decimal c.args.last)) c.format-else-first-last.ensures.ok
    (stays-append (decimal c.args.first) (codes ".." ++ decimal c.args.last) (stays-decimal c.args.first) (stays-decimal c.args.last))
