-- A write depends on the cells that it reads, and its edit can be made.
use Rattle.std.proofs.Common.{ℕ, ◌≤◌, ◌∷◌, nat_le, length, sym, ap, ◌∙◌, subst, arith}
use Rattle.std.proofs.lemmas.Bool.{leb-true, and_parts}
use Rattle.su_bytes.specs.declared.formats.Format.{Format}
use Rattle.su_bytes.specs.Membership.{Membership}
use Rattle.su_node.specs.Field.{Field.SizeOf}
use Rattle.su_table.specs.Tree.{Tree}
use Rattle.su_table.specs.Cell.{Cell.At, val}
use Rattle.su_table.specs.Query.{is_file_kind, value_number}
use Rattle.su_op.specs.declared.areas.Part.TheVariants.{Size as SizePart}
use Rattle.su_op.specs.declared.areas.Area.TheVariants.{Inode as InodeArea}
use Rattle.su_op.specs.Rule.{Plan, plan_reads, file_areas}
use Rattle.su_op.specs.Write.{write_rule, write_plan}
use Rattle.su_op.specs.Writing.{Writing}
use Rattle.su_op.proofs.EditLemmas.{CanEdits}
use Rattle.su_op.proofs.RuleLemmas.{Gives, AgreeOn, left, later, kind_same, size_same, body_same, IsA_file, size_is}
use Rattle.std.proofs.Common.{Bool, true, false, [], ◌++◌, map, min, refl, ◌+◌, ◌≡◌}
use Rattle.std.specs.Bool.{if◌then◌else◌}
use Rattle.su_op.specs.Area.{blocks_between, size_cell, block_cells}
use Rattle.su_op.specs.Footprint.{overwritten_parts, grown_parts}
use Rattle.su_op.specs.Write.{WriteRow}
use Rattle.su_op.proofs.RuleLemmas.{Admissible, OfEachPlan, PlanMakesNew, of_given}

module _ (ro : Membership) (a : ℕ) (format : Format) (w : Writing) where
  write_local : (T T' : Tree) (p : Plan) → Gives (write_rule ro T a format w) p → AgreeOn (plan_reads p) T T' → Gives (write_rule ro T' a format w) p
  write_local T T' p (some, (touch, (f, at, (is, (holder, (fits, plan)))))) agree =
      let all : AgreeOn (plan_reads (write_plan (value_number (val T (At f SizeOf))) w f)) T T' = subst (λ p. AgreeOn (plan_reads p) T T') (sym plan) agree in
      let reads : AgreeOn (InodeArea f SizePart ∷ file_areas w.file f) T T' = left (InodeArea f SizePart ∷ file_areas w.file f) _ all in
      let reads_f : AgreeOn (file_areas w.file f) T T' = later reads in
      (some, (touch, (f, body_same w.file f at reads_f, (ap is_file_kind (kind_same reads_f) ∙ is, (holder, (fits, ap (λ v. write_plan (value_number v) w f) (size_same reads) ∙ plan))))))

  write_can : (T : Tree) (p : Plan) → Gives (write_rule ro T a format w) p → CanEdits T p.edits
  write_can T p (some, (touch, (f, at, (is, (holder, (fits, plan)))))) =
      let (l, _) = and_parts (nat_le 1 (length w.bytes)) _ some in
      let one : 1 ≤ length w.bytes = leb-true 1 (length w.bytes) l in
      subst (λ (p : Plan). CanEdits T p.edits) plan (((IsA_file T f is, size_is T f is, omega arith), tt), tt)

write_new : (ro : Membership) (T : Tree) (a : ℕ) (format : Format) (w : Writing) → OfEachPlan (PlanMakesNew T) (write_rule ro T a format w)
write_new ro T a format w = λ f. tt

write_row : (w : Writing) → WriteRow w
write_row w s f = record { reads = refl; writes = go (w.off + length w.bytes) (nat_le (w.off + length w.bytes) s) }
  where
    go : (end : ℕ) (b : Bool) → map (InodeArea f) (if b then overwritten_parts w.off end else grown_parts s w.off end) ++ []
        ≡ (if b then block_cells (blocks_between w.off end) f ∷ [] else size_cell f ∷ block_cells (blocks_between (min w.off s) end) f ∷ [])
    go end true = refl
    go end false = refl

pub write_admissible : (w : Writing) → Admissible (λ ro T x. write_rule ro T x.author x.format w) (WriteRow w)
write_admissible w = record {
  local = λ ro x T T' p sound. write_local ro x.author x.format w T T' p;
  can = λ ro x T p sound. write_can ro x.author x.format w T p;
  new = λ ro x T p. of_given (PlanMakesNew T) (write_rule ro T x.author x.format w) p (write_new ro T x.author x.format w);
  row = write_row w;
}
