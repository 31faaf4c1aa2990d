use Rattle.std.proofs.Common.{◌∙◌, ap}
use Rattle.su_history.proofs.FillingLemmas.{filled_in, filled_told}
use Rattle.su_history.proofs.runs.filled.Goals as goal

pub returns-in-Makes : goal.returns-in-Makes
returns-in-Makes c = ap filled_in c.in-Makes.ensures ∙ filled_told c.args.entry.now.change

pub returns-in-Edits : goal.returns-in-Edits
returns-in-Edits c = ap filled_in c.in-Edits.ensures ∙ filled_told c.args.entry.now.change

pub returns-in-Neither : goal.returns-in-Neither
returns-in-Neither c = ap filled_in c.in-Neither.ensures ∙ filled_told c.args.entry.now.change
