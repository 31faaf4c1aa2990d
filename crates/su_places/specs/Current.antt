-- What a file keeps whose records are taken up or kept now.
use Rattle.std.specs.Prelude.{◌≡◌, ℕ, List, [], ◌++◌, length, take}
use Rattle.sqlite_disk.specs.declared.Disk.{Ghosts}
use Rattle.sqlite.specs.declared.FileStore.{FileStore}
use Rattle.sqlite.specs.Recovery.{Image}
use Rattle.sqlite.specs.WalReads.{AreClean}
use Rattle.sqlite.specs.Tree.{Trees}
use Rattle.sqlite.specs.State.{State, HasCleanDisk}
use Rattle.sqlite.specs.Files.{file_state, over_files, image_of, HoldsDatabase}
use Rattle.su_store.specs.Kept.{Kept}
use Rattle.su_store.specs.Tables.{Stands}
use Rattle.su_store.specs.Files.{File, IsAtRest}
use Rattle.su_keeper.specs.Kept.{KeptRecord}
use Rattle.su_vault.specs.Records.{commits_of}
use Rattle.su_places.specs.Places.{AreBeside, KeepsAll}
use Rattle.su_places.specs.declared.places.Place.{Place}
use Rattle.su_places.specs.declared.places.Place.TheVariants.{Open, Shut}

-- the tables stand for these records
pub record HasRecords (commits : List (List ℕ)) (db : Trees) : Type 0 where
  pub kept : Kept
  pub stands : Stands kept db
  pub same : kept.records ≡ commits

-- the two files hold tables that stand for these records
abbrev pub HoldsRecords : List (List ℕ) → Image → Type 0
HoldsRecords commits image =
    ∥ ((db : Trees) × HasRecords commits db × HoldsDatabase image db) ∥₁

-- the tables stand for records of which these are the first
pub record BeginsWith (records : List KeptRecord) (db : Trees) : Type 0 where
  pub kept : Kept
  pub stands : Stands kept db
  pub more : List (List ℕ)
  pub first : kept.records ≡ commits_of records ++ more
  pub beside : AreBeside records kept.blocks

-- a crash leaves what the file shows
abbrev pub IsSettled : State → Type 0
IsSettled s = (db : Trees) → s.may_leave db → db ≡ s.now.trees

-- The file shows tables that stand for as many records as it counts, and a crash leaves these. The
-- records here are the first of them, so many, with the items that came with each.
pub record IsInStep {D : Type 0} {g : Ghosts D} (f : File (FileStore D g)) (number : ℕ)
    (records : List KeptRecord) : Type 0 where
  pub kept : Kept
  pub stands : Stands kept (file_state f.held).now.trees
  pub counted : length kept.records ≡ f.count
  pub first : take number kept.records ≡ commits_of records
  pub beside : AreBeside records kept.blocks
  pub settled : IsSettled (file_state f.held)

-- The file shows tables that stand for these records, as many as it counts, and a crash leaves them.
pub record IsShown {D : Type 0} {g : Ghosts D} (f : File (FileStore D g)) (commits : List (List ℕ)) :
    Type 0 where
  pub has : HasRecords commits (file_state f.held).now.trees
  pub counted : length commits ≡ f.count
  pub settled : IsSettled (file_state f.held)

-- Whatever a crash leaves of an open file begins with the records. One that isn't open keeps just
-- these.
abbrev pub Begins : {D : Type 0} (g : Ghosts D) → Place D g → List KeptRecord → Type 0
Begins g (Open f) records =
    HasCleanDisk (file_state f.held) → (db : Trees) → (file_state f.held).may_leave db
    → BeginsWith records db
Begins g place records = KeepsAll g place records

-- An open file is in step with the records. One that isn't open keeps just these.
abbrev pub Counts : {D : Type 0} (g : Ghosts D) → Place D g → ℕ → List KeptRecord → Type 0
Counts g (Open f) number records = HasCleanDisk (file_state f.held) → IsInStep f number records
Counts g place number records = KeepsAll g place records

-- how many records the file shows, if it is open
abbrev pub count_of : {D : Type 0} {g : Ghosts D} → Place D g → ℕ
count_of (Open f) = f.count
count_of place = 0

-- no wrong answer of the disk was taken as true, as far as the file was open or shut in order
abbrev pub IsClean : {D : Type 0} (g : Ghosts D) → Place D g → Type 0
IsClean g (Open f) = HasCleanDisk (file_state f.held)
IsClean g (Shut s) = AreClean g s.files.log s.files.db
IsClean g place = Unit {0}

-- the file is open, and shows these records
abbrev pub Shows : {D : Type 0} (g : Ghosts D) → Place D g → List (List ℕ) → Type 0
Shows g (Open f) commits = HasCleanDisk (file_state f.held) → IsShown f commits
Shows g place commits = ⊥

-- The file is as it was found: shut, and its two files hold tables that stand for these records, or
-- open, and it shows these.
abbrev pub WasFound : {D : Type 0} (g : Ghosts D) → Place D g → List (List ℕ) → Type 0
WasFound g (Shut s) commits = HoldsRecords commits (image_of g s.files)
WasFound g place commits = Shows g place commits

-- the file is open, and no call has changed it since
abbrev pub RestsOpen : {D : Type 0} (g : Ghosts D) → Place D g → Type 0
RestsOpen g (Open f) = HasCleanDisk (file_state f.held) → IsAtRest over_files f
RestsOpen g place = ⊥

-- the file is shut, and no call has lost it
abbrev pub RestsShut : {D : Type 0} {g : Ghosts D} → Place D g → Type 0
RestsShut (Shut s) = Unit {0}
RestsShut place = ⊥

-- the file is open, and its tables stand for these records
abbrev pub ShowsTables : {D : Type 0} (g : Ghosts D) → Place D g → List (List ℕ) → Type 0
ShowsTables g (Open f) commits =
    HasCleanDisk (file_state f.held) → HasRecords commits (file_state f.held).now.trees
ShowsTables g place commits = ⊥
