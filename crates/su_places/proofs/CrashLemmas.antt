-- What a crash leaves of a file of a store.
use Rattle.std.proofs.Common.{◌≡◌, ℕ, List, ◌∷◌}
use Rattle.std.proofs.Math.Logic.{∥∥₁_map}
use Rattle.sqlite_disk.specs.declared.Disk.{Ghosts}
use Rattle.sqlite_disk.specs.declared.Files.{Files}
use Rattle.sqlite.specs.declared.FileStore.{FileStore}
use Rattle.sqlite.specs.Recovery.{Image}
use Rattle.sqlite.specs.WalFiles.{outcomes}
use Rattle.sqlite.specs.WalReads.{AreClean}
use Rattle.sqlite.specs.Tree.{Trees}
use Rattle.sqlite.specs.State.{HasCleanDisk}
use Rattle.sqlite.specs.Files.{file_state}
use Rattle.su_keeper.specs.Kept.{KeptRecord}
use Rattle.su_vault.specs.Records.{commits_of}
use Rattle.su_store.specs.Files.{File}
use Rattle.su_store.specs.Shut.{MayHold}
use Rattle.su_places.specs.Places.{StandsFor, Keeps, KeepsAll}
use Rattle.su_places.specs.Current.{HasRecords, HoldsRecords}
use Rattle.su_places.specs.declared.places.Place.TheVariants.{Open}

-- what stands for the records with their items stands for the records
plain : (records : List KeptRecord) (db : Trees) → StandsFor records db → HasRecords (commits_of records) db
plain records db stands = record { kept = stands.kept; stands = stands.stands; same = stands.same }

module _ {D : Type 0} (g : Ghosts D) (records : List KeptRecord) (image : Image) where
  pub open_crashes : (f : File (FileStore D g)) → HasCleanDisk (file_state f.held) → ∥ MayHold (file_state f.held) image ∥₁ → KeepsAll g (Open f) records → HoldsRecords (commits_of records) image
  open_crashes f clean may keeps = ∥∥₁_map may (λ found. (found.0, plain records found.0 (keeps clean found.0 found.1), found.2))

  pub shut_crashes : (files : Files D) → AreClean g files.log files.db → outcomes g files.log files.db image → Keeps g files records → HoldsRecords (commits_of records) image
  shut_crashes files clean out keeps =
      let rests = keeps clean in
      ∥∥₁_map (rests.rests.left image out) (λ held. (rests.db, plain records rests.db rests.stands, held))
