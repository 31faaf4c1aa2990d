-- What the files keep whose records all stand in the book.
use Rattle.std.specs.Prelude.{List}
use Rattle.std.specs.List.{AllZip}
use Rattle.su_keeper.specs.Kept.{KeptRecord}
use Rattle.su_vault.specs.declared.volumes.Volume.{Ghosts}
use Rattle.su_store_files.specs.declared.past.PastFiles.{PastFiles}

-- each file keeps the records of its list
abbrev pub KeepInTurn : {F E : Type 0} (g : Ghosts F E) → PastFiles F E → List (List KeptRecord) → Type 0
KeepInTurn g past lists = AllZip g.keeps past.places.items lists
