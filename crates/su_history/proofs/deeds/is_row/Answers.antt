use Rattle.su_history.proofs.RowLemmas.{row_told}
use Rattle.su_history.proofs.deeds.is_row.Goals as goal

pub returns-in-Some : goal.returns-in-Some
returns-in-Some c = row_told c.args.first.now c.args.behind.now c.in-Some.file c.are_edits.result c.in-Some.ensures c.are_edits.ensures
