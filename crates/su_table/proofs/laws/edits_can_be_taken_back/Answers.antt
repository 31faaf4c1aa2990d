use Rattle.su_table.proofs.TakenBack.{edits_can_be_taken_back}
use Rattle.su_table.proofs.laws.edits_can_be_taken_back.Goals as goal

pub returns : goal.returns
returns c = edits_can_be_taken_back
