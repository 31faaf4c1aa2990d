-- Where operations don't read blocks, the files of these blocks stay; and of trees that differ in
-- what an operation doesn't read, in both or in neither a file stands where it writes blocks.
use Rattle.std.proofs.Common.{◌≡◌, ℕ, Bool, true, false, IsTrue, inl, inr, List, [], ◌∷◌, refl, sym, ap, ◌∙◌}
use Rattle.std.proofs.lemmas.Bool.{both_ways}
use Rattle.su_bytes.specs.Membership.{Membership}
use Rattle.su_node.specs.Field.{Field.KindOf, Field.BlockOf, Value.Nothing}
use Rattle.su_bytes.specs.Place.{Place}
use Rattle.su_table.specs.Tree.{Tree}
use Rattle.su_table.specs.Cell.{Cell.At, val}
use Rattle.su_table.specs.Query.{is_file_kind, is_file_at}
use Rattle.su_op.specs.declared.areas.Area.{Area}
use Rattle.su_op.specs.Area.{has, meet}
use Rattle.su_op.specs.Soundness.{Sound, WholeOrNew, KindOrFile}
use Rattle.su_op.specs.Batch.{Action}
use Rattle.su_op.specs.Batch.{store}
use Rattle.su_op.proofs.Public.{batch_block_written as block_written, batch_kind_written as kind_written, batches_lawful as store_lawful}
use Rattle.su_undo.proofs.TakingOut.{Beside, AllBeside, led_to, unwritten, agree_read, clear_beside}

-- where a file with one of these blocks stood, it stands
abbrev pub FilesStay : List Area → Tree → Tree → Type 0
FilesStay w S T = (p : Place) (n : ℕ) → has w (At p (BlockOf n)) ≡ true → is_file_at S p ≡ true → is_file_at T p ≡ true

module _ (ro : Membership) where
  -- in both or in neither tree a file stands where an operation writes blocks
  pub files_alike : (w : List Area) (S S' : Tree) (x : Action) → Beside (store ro) w S S' x → (p : Place) (n : ℕ) → has ((store ro).writes S x) (At p (BlockOf n)) ≡ true → is_file_at S' p ≡ is_file_at S p
  files_alike w S S' x b p n wrote =
      go (block_written ro S x p n b.sound b.ok wrote)
      (block_written ro S' x p n b.sound' b.goes.ok (ap (λ a. has a (At p (BlockOf n))) b.goes.writes ∙ wrote))
    where
      kind : has ((store ro).writes S x) (At p KindOf) ≡ true → is_file_at S' p ≡ is_file_at S p
      kind is = ap is_file_kind (agree_read (store ro) (store_lawful ro) S S' x w b.clear b.agree (At p KindOf) ((store_lawful ro).within S x (At p KindOf) b.sound b.ok is))

      go : KindOrFile S p (has ((store ro).writes S x)) → KindOrFile S' p (has ((store ro).writes S' x)) → is_file_at S' p ≡ is_file_at S p
      go (inl is) other = kind is
      go (inr file) (inl is) = kind (ap (λ a. has a (At p KindOf)) (sym b.goes.writes) ∙ is)
      go (inr file) (inr file') = file' ∙ sym file

  -- an operation leaves the files of blocks that it doesn't read
  files_stay : (w : List Area) (S : Tree) (x : Action) → Sound S → IsTrue ((store ro).ok S x) → meet ((store ro).reads S x) w ≡ false → FilesStay w S ((store ro).act S x)
  files_stay w S x sound ok clear p n inside file = go (has ((store ro).writes S x) (At p KindOf)) refl
    where
      out : has ((store ro).writes S x) (At p (BlockOf n)) ≡ false
      out = unwritten (store ro) (store_lawful ro) S x w (At p (BlockOf n)) sound ok clear inside

      new : val S (At p KindOf) ≡ Nothing → is_file_at ((store ro).act S x) p ≡ true
      new nothing = absurd (both_ways (is_file_at S p) (ap is_file_kind nothing) file)

      written : WholeOrNew S p (has ((store ro).writes S x)) → is_file_at ((store ro).act S x) p ≡ true
      written (inl nothing) = new nothing
      written (inr whole) = absurd (both_ways (has ((store ro).writes S x) (At p (BlockOf n))) out (whole (BlockOf n)))

      go : (b : Bool) → has ((store ro).writes S x) (At p KindOf) ≡ b → is_file_at ((store ro).act S x) p ≡ true
      go false is = ap is_file_kind ((store_lawful ro).leaves S x sound ok (At p KindOf) is) ∙ file
      go true is = written (kind_written ro S x p sound ok is)

  pub all_files_stay : (w : List Area) (S S' : Tree) (xs : List Action) → AllBeside (store ro) w S S' xs → FilesStay w S' (led_to (store ro) S' xs)
  all_files_stay w S S' [] b p n is file = file
  all_files_stay w S S' (x ∷ xs) (b, rest) p n is file =
      all_files_stay w ((store ro).act S x) ((store ro).act S' x) xs rest p n is
      (files_stay w S' x b.sound' b.goes.ok (clear_beside (store ro) (store_lawful ro) w S S' x b) p n is file)
