use Rattle.std.proofs.Common.{sym, subst, ◌∙◌}
use Rattle.sqlite_disk.specs.declared.Files.{Files}
use Rattle.sqlite.specs.Files.{image_of}
use Rattle.sqlite.specs.WalFiles.{outcomes}
use Rattle.sqlite.specs.WalReads.{AreClean}
use Rattle.su_vault.specs.Records.{commits_of}
use Rattle.su_places.specs.Places.{KeepsAll, Keeps}
use Rattle.su_places.specs.Current.{HoldsRecords}
use Rattle.su_places.proofs.CrashLemmas.{open_crashes, shut_crashes}
use Rattle.su_places.proofs.places.Place.crash.Goals.{in-Open, in-Shut}
use Rattle.su_places.proofs.places.Place.crash.Goals as goal

pub returns : goal.returns
returns g c = λ clean records kept.
    let D = g.D.Disk in
    let left = c.crash_both.result in
    let was = c.crash_both.ensures.clean (subst (λ f. AreClean D f.log f.db) c.over.ensures clean) in
    let out = c.crash_both.ensures.left in
    subst (λ f. HoldsRecords (commits_of records) (image_of D f)) (sym c.over.ensures) (elim c.match-self.branch [
      | in-Open w ↦
          let own = w.files-is in
          let sure = subst (λ f. AreClean D f.log f.db) own was in
          let how = w.abandon-files.ensures in
          open_crashes D records (image_of D left) w.in-Open.file (how.clean sure) (how.left sure (image_of D left) (subst (λ f. outcomes D f.log f.db (image_of D left)) own out)) (subst (λ p. KeepsAll D p records) w.in-Open.is kept)
      | in-Shut w ↦
          let own = w.files-is ∙ w.into_files-files.ensures in
          let keeps = subst (λ p. KeepsAll D p records) w.in-Shut.is kept in
          shut_crashes D records (image_of D left) w.in-Shut.shut.files (subst (λ f. AreClean D f.log f.db) own was) (subst (λ f. outcomes D f.log f.db (image_of D left)) own out) keeps
    ])
