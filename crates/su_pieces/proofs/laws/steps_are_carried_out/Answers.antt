use Rattle.su_pieces.proofs.Carrying.{cut_carried_out, make_carried_out, write_carried_out}
use Rattle.su_pieces.proofs.laws.steps_are_carried_out.Goals as goal

pub returns : goal.returns
returns c = record { makes = make_carried_out; writes = write_carried_out; cuts = cut_carried_out }
