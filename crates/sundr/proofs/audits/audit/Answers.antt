use Rattle.std.proofs.Common.{refl}
use Rattle.sundr.proofs.audits.audit.Goals as goal

pub returns-in-Taken : goal.returns-in-Taken
returns-in-Taken g c before there = let told = c.in-Taken.ensures.text before there in (_, (told.0, refl), told.1)
