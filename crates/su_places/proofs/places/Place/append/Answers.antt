use Rattle.std.proofs.Common.{◌≤◌, map, subst}
use Rattle.sqlite_store.specs.Laws.{settled_at}
use Rattle.su_places.specs.Current.{Counts, Shows, count_of}
use Rattle.su_places.proofs.CurrentLemmas.{appends, appends_shown, fails_to_append, always_err}
use Rattle.su_places.proofs.places.Place.append.Goals as goal

pub returns-in_ok-append-in-Open-clause-appended : goal.returns-in_ok-append-in-Open-clause-appended
returns-in_ok-append-in-Open-clause-appended g c number records within counts =
    let was = subst (λ p. Counts g.D.Disk p number records) c.in-Open.is counts in
    let through = subst (λ p. count_of p ≤ number) c.in-Open.is within in
    appends g.D.Disk c.in-Open.file c.append.new.self number records c.args.commit.now c.args.blocks.now c.in_ok-append-in-Open.ensures.kept c.append.ensures.crash
    (λ db is_open may. settled_at c.append.new.self.held.store g.met.D.Disk.seen_may_stay db is_open may) c.in_ok-append-in-Open.ensures.count through was

pub returns-in_err-append-in-Open-clause-begun : goal.returns-in_err-append-in-Open-clause-begun
returns-in_err-append-in-Open-clause-begun g c number records within counts =
    let was = subst (λ p. Counts g.D.Disk p number records) c.in-Open.is counts in
    let through = subst (λ p. count_of p ≤ number) c.in-Open.is within in
    always_err _ (fails_to_append g.D.Disk c.in-Open.file c.append.new.self number records c.args.commit.now (map (λ b. b.items) c.args.blocks.now) c.append.ensures.crash through was)

pub returns-in_ok-append-in-Open-clause-shown : goal.returns-in_ok-append-in-Open-clause-shown
returns-in_ok-append-in-Open-clause-shown g c commits shown =
    appends_shown g.D.Disk c.in-Open.file c.append.new.self commits c.args.commit.now (map (λ b. b.items) c.args.blocks.now) c.in_ok-append-in-Open.ensures.kept c.append.ensures.crash
    (λ db is_open may. settled_at c.append.new.self.held.store g.met.D.Disk.seen_may_stay db is_open may) c.in_ok-append-in-Open.ensures.count (subst (λ p. Shows g.D.Disk p commits) c.in-Open.is shown)
