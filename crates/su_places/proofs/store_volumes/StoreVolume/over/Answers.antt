use Rattle.su_places.proofs.CurrentLemmas.{starts_empty, shows_none}
use Rattle.su_places.proofs.store_volumes.StoreVolume.over.Goals as goal

pub returns-clause-fresh : goal.returns-clause-fresh
returns-clause-fresh g c = starts_empty g.D.Disk c.args.file c.requires

pub returns-clause-shown : goal.returns-clause-shown
returns-clause-shown g c = shows_none g.D.Disk c.args.file c.requires
