use Rattle.std.proofs.Common.{◌∙◌, sym}
use Rattle.su_desk.proofs.FormatLemmas.{format_last}
use Rattle.su_desk.proofs.entries.format_after.Goals as goal

pub returns-in-Some : goal.returns-in-Some
returns-in-Some c = c.format.ensures ∙ format_last c.args.entries.now c.in-Some.entry.now (sym c.in-Some.ensures.value)
