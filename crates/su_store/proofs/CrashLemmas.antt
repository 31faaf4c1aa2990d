-- What a crash makes of the files of a store that was given up.
use Rattle.std.proofs.Common.{◌≡◌, IsTrue, sym, subst, ap, ◌∙◌, arith}
use Rattle.std.proofs.Math.Logic.{∥∥₁_map}
use Rattle.sqlite_disk.specs.declared.Disk.{Ghosts}
use Rattle.sqlite_disk.specs.declared.Files.{Files}
use Rattle.sqlite.specs.Recovery.{Image}
use Rattle.sqlite.specs.WalFiles.{outcomes}
use Rattle.sqlite.specs.WalReads.{AreClean}
use Rattle.sqlite.specs.Tree.{Trees}
use Rattle.sqlite.specs.Held.{Held, AreDatabases}
use Rattle.sqlite.specs.State.{HasCleanDisk}
use Rattle.sqlite.specs.Files.{file_state, over_files}
use Rattle.sqlite.specs.declared.FileStore.{FileStore}
use Rattle.sqlite.proofs.Theorems.{opens_again}
use Rattle.sqlite_pool.proofs.StateLemmas.{may_leave_is, clean_is}
use Rattle.sqlite_store.specs.FileStore.{files, view, recovers, faults, is_shielded}
use Rattle.sqlite_trees.specs.View.{IsClean, IsQuiet}
use Rattle.sqlite_trees.proofs.Doubt.{no_doubt}
use Rattle.su_store.specs.Shut.{MayHold}

module _ {D : Type 0} {g : Ghosts D} (held : Held (FileStore D g)) (it : FileStore D g) (left : Files D) (own : (left.log, left.db) ≡ files it) (quiet : IsQuiet view faults recovers is_shielded held.store it)
    (clean : AreClean g left.log left.db) where
  own_clean : AreClean g (files it).0 (files it).1
  own_clean = subst (λ pair. AreClean g pair.0 pair.1) own clean

  pub store_clean : IsClean (view it)
  store_clean = no_doubt _ (subst IsTrue (sym (clean_is it.pool)) own_clean)

  pub was_clean : HasCleanDisk (file_state held)
  was_clean = omega (arith, quiet.clean, store_clean)

  pub may_hold : IsTrue (view it).is_numbered → AreDatabases (recovers it) → (image : Image) → outcomes g left.log left.db image → ∥ MayHold (file_state held) image ∥₁
  may_hold numbered sound image may =
      let there = may_leave_is it.pool image own_clean (subst (λ pair. outcomes g pair.0 pair.1 image) own may) in
      ∥∥₁_map (opens_again it numbered sound image there) (λ found. (found.0, quiet.outcomes found.0 found.1, found.2))
