use Rattle.std.proofs.Common.{subst, arith}
use Rattle.su_places.specs.Places.{KeepsAll}
use Rattle.su_places.specs.Current.{Begins, Counts, Shows}
use Rattle.su_places.proofs.PlaceLemmas.{read_keeps}
use Rattle.su_places.proofs.CurrentLemmas.{reads_begin, reads_or, reads_at, reads_shown_or, found_or}
use Rattle.su_places.proofs.places.Place.record.Goals as goal

pub returns-in-Open-clause-kept : goal.returns-in-Open-clause-kept
returns-in-Open-clause-kept g c records kept =
    read_keeps g.D.Disk c.in-Open.file records c.record.new.self c.record.ensures.crash
    (subst (λ p. KeepsAll g.D.Disk p records) c.in-Open.is kept)

pub returns-in-Open-clause-begun : goal.returns-in-Open-clause-begun
returns-in-Open-clause-begun g c records begins =
    reads_begin g.D.Disk c.in-Open.file c.record.new.self records c.record.ensures.crash
    (subst (λ p. Begins g.D.Disk p records) c.in-Open.is begins)

pub returns-in-Open-clause-counted : goal.returns-in-Open-clause-counted
returns-in-Open-clause-counted g c number records counts =
    let how = c.record.ensures in
    reads_or g.D.Disk c.in-Open.file c.record.new.self _ number records how.crash how.same how.count (subst (λ p. Counts g.D.Disk p number records) c.in-Open.is counts)

pub returns-in-Open-clause-found : goal.returns-in-Open-clause-found
returns-in-Open-clause-found g c =
    found_or g.D.Disk c.in-Open.file c.record.new.self (λ b. b.items) _ c.args.number c.record.ensures.found c.record.ensures.same

pub returns-in-Open-clause-at : goal.returns-in-Open-clause-at
returns-in-Open-clause-at g c commits shown clean =
    reads_at g.D.Disk c.in-Open.file c.record.new.self (λ b. b.items) _ c.args.number commits c.record.ensures.found (λ new. omega (arith, new, c.record.ensures.crash.clean)) clean (subst (λ p. Shows g.D.Disk p commits) c.in-Open.is shown)

pub returns-in-Open-clause-shown : goal.returns-in-Open-clause-shown
returns-in-Open-clause-shown g c =
    let how = c.record.ensures in
    reads_shown_or g.D.Disk c.in-Open.file c.record.new.self _ _ c.in-Open.is how.crash how.same how.count
