use Rattle.su_undo.proofs.Copies.{copies_safe}
use Rattle.su_undo.proofs.laws.copies_can_be_undone.Goals as goal

pub returns : goal.returns
returns c = copies_safe
