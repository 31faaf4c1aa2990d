use Rattle.std.proofs.Common.{arith}
use Rattle.su_scratch.proofs.notes.Note.can_be_told.Goals as goal

pub returns : goal.returns
returns c = record { digest = c.has_digest_length.ensures; first = omega arith; count = omega arith }
