-- What the files of a vault hold in their order.
use Rattle.std.specs.Prelude.{◌≡◌, ◌≤◌, ℕ, true, false, List, [], ◌∷◌, ◌++◌, drop}
use Rattle.std.specs.List.{All, AllZip}
use Rattle.su_keeper.specs.Kept.{KeptRecord}
use Rattle.su_vault.specs.Records.{commits_of}
use Rattle.su_vault.specs.declared.volumes.Volume.{Ghosts}
use Rattle.su_store_files.specs.Past.{KeepInTurn}
use Rattle.su_store_files.specs.declared.volumes.Opened.{Opened}
use Rattle.su_store_files.specs.declared.volumes.Volumes.{Volumes}

-- the lists, one behind another
abbrev pub joined : List (List KeptRecord) → List KeptRecord
joined [] = []
joined (list ∷ lists) = list ++ joined lists

-- lists of files whose turn comes later, the next of them last: that one's comes first
abbrev pub in_turn : List (List (List ℕ)) → List (List ℕ)
in_turn [] = []
in_turn (list ∷ lists) = in_turn lists ++ list

-- The first file is open, and none of its records stands in the book; and what the files were found
-- with stands for these records, one file behind another.
pub record WereFound {F E : Type 0} (g : Ghosts F E) (files : Opened F E) (commits : List (List ℕ)) :
    Type 0 where
  pub own : List (List ℕ)
  pub lists : List (List (List ℕ))
  pub all : commits ≡ own ++ in_turn lists
  pub begun : g.counts files.first 0 []
  pub shown : g.shows files.first own
  pub later : AllZip g.was_found files.later.items lists

-- so it is, of some records
abbrev pub WereSound : {F E : Type 0} (g : Ghosts F E) → Opened F E → Type 0
WereSound g files = (commits : List (List ℕ)) × WereFound g files commits

-- what the file was found with stands for some records
abbrev pub WasSound : {F E : Type 0} (g : Ghosts F E) → F → Type 0
WasSound g file = (commits : List (List ℕ)) × g.was_found file commits

-- no more are kept from now on
abbrev pub halted : {F E : Type 0} → Volumes F E → Volumes F E
halted v = record v { is_halted = true }

-- all records of the current file stand in the book
abbrev pub IsThrough : {F E : Type 0} (g : Ghosts F E) → Volumes F E → Type 0
IsThrough g v = g.count v.current ≤ v.kept

-- all records of all files stand in the book
abbrev pub IsAtEnd : {F E : Type 0} (g : Ghosts F E) → Volumes F E → Type 0
IsAtEnd g v = IsThrough g v × (v.later.items ≡ [])

-- The files keep the records: the past ones all of theirs, one after another, and then the current
-- one. Once no more are kept, the last that came need not stand in the book.
pub record HoldsInTurn {F E : Type 0} (g : Ghosts F E) (v : Volumes F E) (records : List KeptRecord) :
    Type 0 where
  pub lists : List (List KeptRecord)
  pub own : List KeptRecord
  pub more : List KeptRecord
  pub split : records ++ more ≡ joined lists ++ own
  pub running : v.is_halted ≡ false → more ≡ []
  pub past : KeepInTurn g v.past lists
  pub begun : g.begins v.current own
  pub counted : v.is_halted ≡ false → g.counts v.current v.kept own
  pub later : All (WasSound g) v.later.items

-- The records that the files were found with and that don't stand in the book: those that the current
-- one shows from there on, and those of the later ones.
pub record FindsInTurn {F E : Type 0} (g : Ghosts F E) (v : Volumes F E) (rest : List (List ℕ)) :
    Type 0 where
  pub own : List (List ℕ)
  pub lists : List (List (List ℕ))
  pub split : rest ≡ drop v.kept own ++ in_turn lists
  pub shown : g.shows v.current own
  pub later : AllZip g.was_found v.later.items lists

-- no wrong answer was taken as true of any file
pub record AreClean {F E : Type 0} (g : Ghosts F E) (v : Volumes F E) : Type 0 where
  pub past : All g.is_clean v.past.places.items
  pub current : g.is_clean v.current
  pub later : All g.is_clean v.later.items

-- What the next start finds of the file stands for these records, as long as no wrong answer was taken
-- as true.
abbrev pub IsLeft : {F E : Type 0} (g : Ghosts F E) → F → List (List ℕ) → Type 0
IsLeft g file commits = g.is_clean file → g.was_found file commits

-- So it is of files, the last of them first, which kept the records of these lists.
pub record AreLeft {F E : Type 0} (g : Ghosts F E) (found : List F) (lists : List (List KeptRecord)) :
    Type 0 where
  pub commits : List (List (List ℕ))
  pub all : in_turn commits ≡ commits_of (joined lists)
  pub each : AllZip (IsLeft g) found commits
