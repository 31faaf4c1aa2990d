use Rattle.su_session.proofs.Ending.{known_splits, whole_end}
use Rattle.su_session.proofs.laws.first_messages.Goals as goal

pub returns : goal.returns
returns g c = λ a b end all x known. (known_splits g.S.Service.answers a b end all x known, whole_end c.refused_for_good.ensures end x.count b.known x.rest x.replies x.out x.ends)
