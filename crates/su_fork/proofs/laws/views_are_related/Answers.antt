use Rattle.su_fork.proofs.Runs.{held_list}
use Rattle.su_fork.proofs.Relating.{legal_related}
use Rattle.su_fork.proofs.laws.views_are_related.Goals as goal

pub returns : goal.returns
returns c w es j k xs ys r hx hy = legal_related w.roster xs ys (held_list w es j xs r hx).legal (held_list w es k ys r hy).legal
