use Rattle.std.proofs.Common.{subst}
use Rattle.su_places.specs.Places.{KeepsAll}
use Rattle.su_places.proofs.PlaceLemmas.{shut_keeps, unshut_keeps}
use Rattle.su_places.proofs.places.Place.into_shut.Goals as goal

pub returns-in-Ok-clause-kept : goal.returns-in-Ok-clause-kept
returns-in-Ok-clause-kept g c records kept =
    let was = subst (λ p. KeepsAll g.D.Disk p records) c.in-Open.is kept in
    let how = c.in-Ok.ensures in
    shut_keeps g.D.Disk c.in-Open.file records c.in-Ok.shut.files how.clean how.rests how.stays was

pub returns-in-Err-clause-held : goal.returns-in-Err-clause-held
returns-in-Err-clause-held g c records kept =
    let was = subst (λ p. KeepsAll g.D.Disk p records) c.in-Open.is kept in
    unshut_keeps g.D.Disk c.in-Open.file records c.in-Err.store c.in-Err.ensures.doubt c.in-Err.ensures.left was
