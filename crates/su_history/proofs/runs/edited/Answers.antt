use Rattle.std.proofs.Common.{◌∙◌, ap}
use Rattle.su_history.proofs.FillingLemmas.{edited_in, edited_told}
use Rattle.su_history.proofs.runs.edited.Goals as goal

pub returns-in-Makes : goal.returns-in-Makes
returns-in-Makes c = ap edited_in c.in-Makes.ensures ∙ edited_told c.args.entry.now.change

pub returns-in-Edits : goal.returns-in-Edits
returns-in-Edits c = ap edited_in c.in-Edits.ensures ∙ edited_told c.args.entry.now.change

pub returns-in-Neither : goal.returns-in-Neither
returns-in-Neither c = ap edited_in c.in-Neither.ensures ∙ edited_told c.args.entry.now.change
