use Rattle.std.proofs.Common.{subst}
use Rattle.sqlite.specs.Files.{file_state, image_of}
use Rattle.su_places.specs.Places.{KeepsAll}
use Rattle.su_places.specs.Current.{WasFound}
use Rattle.su_places.specs.declared.places.Place.TheVariants.{Open}
use Rattle.su_places.proofs.PlaceLemmas.{open_keeps}
use Rattle.su_places.specs.Laws.{tables_shown, shown_counts}
use Rattle.su_places.proofs.CurrentLemmas.{open_shows}
use Rattle.su_places.proofs.TablesLemmas.{records_shown}
use Rattle.su_places.proofs.places.Place.into_open.Goals as goal

pub returns-in-Ok-clause-kept : goal.returns-in-Ok-clause-kept
returns-in-Ok-clause-kept g c records kept =
    let was = subst (λ p. KeepsAll g.D.Disk p records) c.in-Shut.is kept in
    let how = c.in-Ok.ensures in
    open_keeps g.D.Disk c.in-Ok.file records c.in-Shut.shut.files how.clean how.shows how.rest was

pub returns-in-Ok-clause-found : goal.returns-in-Ok-clause-found
returns-in-Ok-clause-found g c commits found =
    let was = subst (λ p. WasFound g.D.Disk p commits) c.in-Shut.is found in
    let how = c.in-Ok.ensures in
    tables_shown g.D.Disk c.in-Ok.file commits how.rest (λ clean. records_shown commits (image_of g.D.Disk c.in-Shut.shut.files) (file_state c.in-Ok.file.held).now.trees was (how.shows clean))

pub returns-in-Ok-clause-anew : goal.returns-in-Ok-clause-anew
returns-in-Ok-clause-anew g c commits found = shown_counts g.D.Disk (Open c.in-Ok.file) commits (returns-in-Ok-clause-found g c commits found)

pub returns-in-Err-clause-held : goal.returns-in-Err-clause-held
returns-in-Err-clause-held g c records kept =
    let was = subst (λ p. KeepsAll g.D.Disk p records) c.in-Shut.is kept in
    (c.in-Shut.shut.files, was, c.in-Err.ensures.left)

pub returns-in_default : goal.returns-in_default
returns-in_default g c = record {
  kept = λ records kept. kept;
  anew = λ commits found. shown_counts g.D.Disk c.args.self commits (open_shows g.D.Disk c.args.self commits c.in_default.not-Shut found);
  found = λ commits found. open_shows g.D.Disk c.args.self commits c.in_default.not-Shut found;
  clean = λ clean. clean;
  held = tt;
}
