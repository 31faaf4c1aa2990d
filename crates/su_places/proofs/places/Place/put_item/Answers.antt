use Rattle.std.proofs.Common.{subst}
use Rattle.sqlite_store.specs.Laws.{settled_at}
use Rattle.su_places.specs.Places.{KeepsAll}
use Rattle.su_places.specs.Current.{Begins, Counts}
use Rattle.su_places.proofs.PlaceLemmas.{hold_keeps}
use Rattle.su_places.proofs.CurrentLemmas.{holds_begin, holds_or, puts_or}
use Rattle.su_places.proofs.places.Place.put_item.Goals as goal

pub returns-in-Open-clause-kept : goal.returns-in-Open-clause-kept
returns-in-Open-clause-kept g c records kept =
    hold_keeps g.D.Disk c.in-Open.file records c.hold_block.new.self c.args.item.now c.hold_block.ensures.crash
    (subst (λ p. KeepsAll g.D.Disk p records) c.in-Open.is kept)

pub returns-in-Open-clause-begun : goal.returns-in-Open-clause-begun
returns-in-Open-clause-begun g c records begins =
    holds_begin g.D.Disk c.in-Open.file c.hold_block.new.self records c.args.item.now c.hold_block.ensures.crash
    (subst (λ p. Begins g.D.Disk p records) c.in-Open.is begins)

pub returns-in-Open-clause-counted : goal.returns-in-Open-clause-counted
returns-in-Open-clause-counted g c number records counts =
    let how = c.hold_block.ensures in
    holds_or g.D.Disk c.in-Open.file c.hold_block.new.self _ number records c.args.item.now how.kept how.crash
    (λ db is_open may. settled_at c.hold_block.new.self.held.store g.met.D.Disk.seen_may_stay db is_open may) how.count (subst (λ p. Counts g.D.Disk p number records) c.in-Open.is counts)

pub returns-in-Open-clause-put : goal.returns-in-Open-clause-put
returns-in-Open-clause-put g c number records counts =
    let how = c.hold_block.ensures in
    puts_or g.D.Disk c.in-Open.file c.hold_block.new.self _ number records c.args.item.now how.kept how.crash
    (λ db is_open may. settled_at c.hold_block.new.self.held.store g.met.D.Disk.seen_may_stay db is_open may) how.count (subst (λ p. Counts g.D.Disk p number records) c.in-Open.is counts)
