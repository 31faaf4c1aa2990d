-- What a file keeps as it is read, holds a block more, and is shut and opened.
use Rattle.std.proofs.Common.{◌≡◌, inl, inr, ℕ, List, sym, subst, ◌∙◌, arith}
use Rattle.std.proofs.Math.Logic.{∥∥₁_elim}
use Rattle.sqlite_disk.specs.declared.Disk.{Ghosts}
use Rattle.sqlite_disk.specs.declared.Files.{Files}
use Rattle.sqlite.specs.declared.FileStore.{FileStore}
use Rattle.sqlite.specs.WalReads.{AreClean}
use Rattle.sqlite.specs.Tree.{Trees}
use Rattle.sqlite_trees.specs.Props.{Trees-set}
use Rattle.sqlite_trees.specs.View.{IsClean}
use Rattle.sqlite_store.specs.FileStore.{view, recovers}
use Rattle.sqlite.specs.State.{HasCleanDisk, Survives}
use Rattle.sqlite.specs.Files.{file_state, over_files, image_of, HoldsDatabase}
use Rattle.su_store.specs.Changes.{LeavesBlock}
use Rattle.su_store.specs.Files.{File, IsAtRest}
use Rattle.su_store.specs.Kept.{with_block}
use Rattle.su_store.specs.Shut.{Rests}
use Rattle.su_keeper.specs.Kept.{KeptRecord}
use Rattle.su_places.specs.Places.{StandsFor, Keeps, KeepsAll}
use Rattle.su_places.proofs.BesideLemmas.{beside_block}
use Rattle.su_places.specs.declared.places.Place.TheVariants.{Open, Unshut}

module _ {D : Type 0} (g : Ghosts D) (f : File (FileStore D g)) (records : List KeptRecord) where
  pub read_keeps : (new : File (FileStore D g)) → Survives (file_state f.held) (file_state new.held) (λ _. ⊥) → KeepsAll g (Open f) records → KeepsAll g (Open new) records
  read_keeps new reads kept = λ clean db may. kept (omega (arith, clean, reads.clean)) db (elim (reads.crash clean db may) [
    | inl was ↦ was
    | inr none ↦ absurd none
  ])

  pub hold_keeps : (new : File (FileStore D g)) (block : List ℕ) → Survives (file_state f.held) (file_state new.held) (LeavesBlock block (file_state f.held)) → KeepsAll g (Open f) records → KeepsAll g (Open new) records
  hold_keeps new block crash kept = λ clean db may.
      let was : HasCleanDisk (file_state f.held) = omega (arith, clean, crash.clean) in
      elim (crash.crash clean db may) [
        | inl before ↦ kept was db before
        | inr left ↦
            let shown = kept was (file_state f.held).now.trees left.shown in
            record { kept = record shown.kept { blocks = with_block shown.kept.blocks block }; stands = left.held shown.kept shown.stands; same = shown.same; beside = beside_block records shown.kept.blocks block shown.beside }
      ]

  pub shut_keeps : (files : Files D) → (AreClean g files.log files.db → HasCleanDisk (file_state f.held)) → (AreClean g files.log files.db → Rests g files (file_state f.held).now.trees)
      → (AreClean g files.log files.db → (file_state f.held).may_leave (file_state f.held).now.trees) → KeepsAll g (Open f) records → Keeps g files records
  shut_keeps files was rests stays kept = λ clean. record { db = (file_state f.held).now.trees; stands = kept (was clean) _ (stays clean); rests = rests clean }

  pub unshut_keeps : (it : FileStore D g) → (IsClean (view it) → HasCleanDisk (file_state f.held)) → ((db : Trees) → recovers it db → (file_state f.held).may_leave db) → KeepsAll g (Open f) records → KeepsAll g (Unshut it) records
  unshut_keeps it was left kept = λ clean db may. kept (was clean) db (left db may)

  pub open_keeps : (files : Files D) → (HasCleanDisk (file_state f.held) → AreClean g files.log files.db)
      → (HasCleanDisk (file_state f.held) → (db : Trees) → HoldsDatabase (image_of g files) db → (file_state f.held).now.trees ≡ db)
      → (HasCleanDisk (file_state f.held) → IsAtRest over_files f) → Keeps g files records → KeepsAll g (Open f) records
  open_keeps files was shows rest kept = λ clean db may.
      let before = kept (was clean) in
      let same : (file_state f.held).now.trees ≡ before.db = ∥∥₁_elim before.rests.seen (Trees-set _ _) (shows clean before.db) in
      subst (StandsFor records) (sym ((rest clean).settled db may ∙ same)) before.stands
