use Rattle.su_store_files.proofs.FoundLemmas.{finds_next}
use Rattle.su_store_files.proofs.VolumeLemmas.{with_current, halts_at}
use Rattle.su_store_files.proofs.volumes.Volumes.next.Goals as goal

pub returns-in-Ok-clause-held : goal.returns-in-Ok-clause-held
returns-in-Ok-clause-held g c records held =
    let was = c.take_up.new.self in
    let taken = c.take_up.ensures.held records held in
    with_current g.V.Volume was records taken c.record.new.self (c.record.ensures.begun taken.own taken.begun) (λ running. c.in-Ok.ensures.counted was.kept taken.own (taken.counted running))

pub returns-in-Err-clause-held : goal.returns-in-Err-clause-held
returns-in-Err-clause-held g c records held =
    let taken = c.take_up.ensures.held records held in
    halts_at g.V.Volume c.take_up.new.self records taken c.record.new.self (c.record.ensures.begun taken.own taken.begun)

pub returns-in-Ok-clause-next : goal.returns-in-Ok-clause-next
returns-in-Ok-clause-next g c clean =
    let taken = c.take_up.new.self in
    let read = finds_next g.V.Volume g.met.V.Volume.shows_counted taken c.record.new.self _ c.in_ok-take_up.ensures.last (λ commits shown new. c.in-Ok.ensures.at commits shown new) c.in-Ok.ensures.shown c.in-Ok.ensures.clean clean in
    let up = c.in_ok-take_up.ensures.found read.0 in
    (up.0, λ rest finds. read.1 rest (up.1 rest finds))
