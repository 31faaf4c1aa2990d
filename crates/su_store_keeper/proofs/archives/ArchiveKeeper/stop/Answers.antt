use Rattle.su_store_keeper.proofs.archives.ArchiveKeeper.stop.Goals as goal

pub returns : goal.returns
returns g c = record { held = λ records last held. c.halt.ensures.last records last held; end = c.halt.ensures.end }
