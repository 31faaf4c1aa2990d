-- What a file of an archive keeps, whether it is open, shut, or lost to a call that failed.
use Rattle.std.specs.Prelude.{◌≡◌, ℕ, true, List}
use Rattle.std.specs.List.{AllByRecursion}
use Rattle.sha2.specs.Sha256.{sha256}
use Rattle.sqlite_disk.specs.declared.Disk.{Ghosts}
use Rattle.sqlite_disk.specs.declared.Files.{Files}
use Rattle.sqlite.specs.WalReads.{AreClean}
use Rattle.sqlite.specs.Tree.{Trees}
use Rattle.sqlite_trees.specs.View.{IsClean}
use Rattle.sqlite_store.specs.FileStore.{view, recovers}
use Rattle.sqlite.specs.State.{HasCleanDisk}
use Rattle.sqlite.specs.Files.{file_state, IsCleanLeft, LeavesFiles}
use Rattle.su_keeper.specs.Kept.{KeptRecord}
use Rattle.su_vault.specs.Records.{commits_of}
use Rattle.su_store.specs.Kept.{Kept, has_block}
use Rattle.su_store.specs.Tables.{Stands}
use Rattle.su_store.specs.Shut.{Rests}
use Rattle.su_places.specs.declared.places.Place.{Place}
use Rattle.su_places.specs.declared.places.Place.TheVariants.{Open, Shut, Unopened, Unshut, Away}

-- each item that came with one of these records lies under its digest among the blocks
abbrev pub AreBeside : List KeptRecord → List (List ℕ) → Type 0
AreBeside records blocks =
    AllByRecursion (λ r. AllByRecursion (λ item. has_block (sha256 item) blocks ≡ true) r.items)
    records

-- the tables stand for these records, with the items that came with each
pub record StandsFor (records : List KeptRecord) (db : Trees) : Type 0 where
  pub kept : Kept
  pub stands : Stands kept db
  pub same : kept.records ≡ commits_of records
  pub beside : AreBeside records kept.blocks

-- The two files hold tables that stand for these records, and so does whatever a crash leaves.
pub record RestsFor {D : Type 0} (g : Ghosts D) (files : Files D) (records : List KeptRecord) :
    Type 0 where
  pub db : Trees
  pub stands : StandsFor records db
  pub rests : Rests g files db

-- the same, as long as the disk is clean
abbrev pub Keeps : {D : Type 0} → Ghosts D → Files D → List KeptRecord → Type 0
Keeps g files records = AreClean g files.log files.db → RestsFor g files records

-- Whatever a crash leaves of a file stands for these records, as long as the disk is clean. Where
-- it could not be opened again, a crash leaves what the kit says of files that kept them.
abbrev pub KeepsAll : {D : Type 0} (g : Ghosts D) → Place D g → List KeptRecord → Type 0
KeepsAll g (Open f) records =
    HasCleanDisk (file_state f.held) → (db : Trees) → (file_state f.held).may_leave db
    → StandsFor records db
KeepsAll g (Shut s) records = Keeps g s.files records
KeepsAll {D} g (Unopened left) records =
    (was : Files D) × Keeps g was records × (IsCleanLeft left → LeavesFiles was left)
KeepsAll g (Unshut it) records =
    IsClean (view it) → (db : Trees) → recovers it db → StandsFor records db
KeepsAll g Away records = ⊥

-- the file isn't open
abbrev pub IsShut : {D : Type 0} {g : Ghosts D} → Place D g → Type 0
IsShut (Open f) = ⊥
IsShut _ = Unit {0}
