-- A file of the store that is shut.
use Rattle.sqlite_disk.specs.declared.Disk.{Ghosts}
use Rattle.sqlite_disk.specs.declared.Files.{Files}
use Rattle.sqlite.specs.Recovery.{Image}
use Rattle.sqlite.specs.WalFiles.{outcomes}
use Rattle.sqlite.specs.Tree.{Trees}
use Rattle.sqlite.specs.State.{State}
use Rattle.sqlite.specs.Files.{HoldsDatabase, image_of}

-- The two files hold these tables, and so does whatever a crash leaves of them.
pub record Rests {D : Type 0} (g : Ghosts D) (files : Files D) (db : Trees) : Type 0 where
  pub seen : ∥ HoldsDatabase (image_of g files) db ∥₁
  pub left : (image : Image) → outcomes g files.log files.db image → ∥ HoldsDatabase image db ∥₁

-- what a crash made of the two files holds tables that it could leave
abbrev pub MayHold : State → Image → Type 0
MayHold s image = (db : Trees) × s.may_leave db × HoldsDatabase image db
