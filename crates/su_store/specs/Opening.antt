-- What an open of a file gives.
use Rattle.sqlite_disk.specs.declared.Disk.{Ghosts}
use Rattle.sqlite.specs.declared.FileStore.{FileStore}
use Rattle.sqlite.specs.Held.{Held}
use Rattle.sqlite.specs.Files.{file_state, IsOpened}
use Rattle.sqlite.specs.Recovery.{Image}
use Rattle.sqlite.specs.Start.{FindsIn}
use Rattle.su_store.specs.Files.{BeginsFrom}

-- The open found the database that the files held. It begins from there: a store's is as it was,
-- and where there was none, nothing is kept yet.
pub record OpensFrom {D : Type 0} {g : Ghosts D} (start : Image)
    (now : Held (FileStore D g)) : Type 0 where
  pub was : Held (FileStore D g)
  pub opened : IsOpened was
  pub found : FindsIn start (file_state was)
  pub begun : BeginsFrom (file_state was) (file_state now)
