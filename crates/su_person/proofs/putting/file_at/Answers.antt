use Rattle.std.proofs.Common.{refl}
use Rattle.su_person.proofs.putting.file_at.Goals as goal

pub returns-clause-standing : goal.returns-clause-standing
returns-clause-standing g c = λ clear. (refl, c.in_ok-bytes.ensures.ok clear)
