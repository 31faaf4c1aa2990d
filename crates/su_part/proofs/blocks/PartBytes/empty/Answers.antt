use Rattle.std.proofs.Common.{refl}
use Rattle.su_part.proofs.BytesLemmas.{empty_bytes}
use Rattle.su_part.proofs.blocks.PartBytes.empty.Goals as goal

pub returns-clause-stands : goal.returns-clause-stands
returns-clause-stands c = empty_bytes _ refl c.empty.ensures.stands c.new.ensures.empty
