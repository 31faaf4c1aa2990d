-- What the files of an archive keep of the records of a book.
use Rattle.std.specs.Prelude.{List}
use Rattle.su_keeper.specs.Kept.{KeptRecord}
use Rattle.su_vault.specs.declared.volumes.Volume.{Ghosts}
use Rattle.su_store_files.specs.declared.volumes.Volumes.{Volumes}
use Rattle.su_store_files.specs.Volumes.{HoldsInTurn}

-- The files hold the records, if those that they were found with stood for anything, which `found`
-- says.
abbrev pub Holds : {F E : Type 0} (g : Ghosts F E) → Type 0 → Volumes F E → List KeptRecord → Type 0
Holds g found files records = found → HoldsInTurn g files records
