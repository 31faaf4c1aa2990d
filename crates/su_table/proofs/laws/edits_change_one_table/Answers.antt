use Rattle.su_table.proofs.TableEdits.{edits_change_one_table}
use Rattle.su_table.proofs.laws.edits_change_one_table.Goals as goal

pub returns : goal.returns
returns c = edits_change_one_table
