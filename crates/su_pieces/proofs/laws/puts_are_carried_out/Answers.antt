use Rattle.su_pieces.proofs.Carrying.{puts_are_carried_out as carried_out}
use Rattle.su_pieces.proofs.laws.puts_are_carried_out.Goals as goal

pub returns : goal.returns
returns c = carried_out
