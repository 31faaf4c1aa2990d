use Rattle.std.proofs.Common.{subst}
use Rattle.su_places.specs.Places.{KeepsAll}
use Rattle.su_places.specs.Current.{Begins, Counts}
use Rattle.su_places.proofs.PlaceLemmas.{read_keeps}
use Rattle.su_places.proofs.CurrentLemmas.{reads_begin, reads_or, reads_shown_or}
use Rattle.su_places.proofs.places.Place.item.Goals as goal

pub returns-in-Open-clause-kept : goal.returns-in-Open-clause-kept
returns-in-Open-clause-kept g c records kept =
    read_keeps g.D.Disk c.in-Open.file records c.block.new.self c.block.ensures.crash
    (subst (λ p. KeepsAll g.D.Disk p records) c.in-Open.is kept)

pub returns-in-Open-clause-begun : goal.returns-in-Open-clause-begun
returns-in-Open-clause-begun g c records begins =
    reads_begin g.D.Disk c.in-Open.file c.block.new.self records c.block.ensures.crash
    (subst (λ p. Begins g.D.Disk p records) c.in-Open.is begins)

pub returns-in-Open-clause-counted : goal.returns-in-Open-clause-counted
returns-in-Open-clause-counted g c number records counts =
    let how = c.block.ensures in
    reads_or g.D.Disk c.in-Open.file c.block.new.self _ number records how.crash how.same how.count (subst (λ p. Counts g.D.Disk p number records) c.in-Open.is counts)

pub returns-in-Open-clause-shown : goal.returns-in-Open-clause-shown
returns-in-Open-clause-shown g c =
    let how = c.block.ensures in
    reads_shown_or g.D.Disk c.in-Open.file c.block.new.self _ _ c.in-Open.is how.crash how.same how.count
