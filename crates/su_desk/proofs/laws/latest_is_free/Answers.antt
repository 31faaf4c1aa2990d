use Rattle.su_desk.proofs.Blockers.{latest_free}
use Rattle.su_desk.proofs.laws.latest_is_free.Goals as goal

pub returns : goal.returns
returns c = latest_free
