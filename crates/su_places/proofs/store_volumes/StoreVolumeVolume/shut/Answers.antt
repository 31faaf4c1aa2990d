use Rattle.su_places.proofs.CurrentLemmas.{shut_counts, shut_none}
use Rattle.su_places.proofs.store_volumes.StoreVolumeVolume.shut.Goals as goal

pub returns-clause-counted : goal.returns-clause-counted
returns-clause-counted g c number records kept = shut_counts g.D.Disk c.shut.new.self number records c.shut.ensures.shut (c.shut.ensures.kept records kept)

pub returns-clause-empty : goal.returns-clause-empty
returns-clause-empty g c = shut_none g.D.Disk c.shut.new.self c.shut.ensures.shut
