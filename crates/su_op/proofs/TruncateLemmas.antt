-- A truncate depends on the cells that it reads, and its edit can be made.
use Rattle.std.proofs.Common.{ℕ, ◌∷◌, sym, ap, ◌∙◌, subst}
use Rattle.su_bytes.specs.declared.formats.Format.{Format}
use Rattle.su_bytes.specs.Membership.{Membership}
use Rattle.su_node.specs.Field.{Field.SizeOf}
use Rattle.su_table.specs.Tree.{Tree}
use Rattle.su_table.specs.Cell.{Cell.At, val}
use Rattle.su_table.specs.Query.{is_file_kind, value_number}
use Rattle.su_op.specs.declared.areas.Part.TheVariants.{Size as SizePart}
use Rattle.su_op.specs.declared.areas.Area.TheVariants.{Inode as InodeArea}
use Rattle.su_op.specs.declared.truncate.Truncate.{Truncate}
use Rattle.su_op.specs.Rule.{Plan, plan_reads, file_areas}
use Rattle.su_op.specs.Truncate.{truncate_rule, truncate_plan}
use Rattle.su_op.proofs.EditLemmas.{CanEdits}
use Rattle.su_op.proofs.RuleLemmas.{Gives, AgreeOn, left, later, kind_same, size_same, body_same, IsA_file, size_is}
use Rattle.std.proofs.Common.{Bool, true, false, [], ◌++◌, map, min, refl, ◌≡◌}
use Rattle.std.specs.Bool.{if◌then◌else◌}
use Rattle.su_op.specs.Area.{blocks_between, size_cell, block_cells}
use Rattle.su_op.specs.Footprint.{other_size_parts}
use Rattle.su_op.specs.Truncate.{TruncateRow}
use Rattle.std.proofs.Common.{max, nat_eq}
use Rattle.su_op.proofs.RuleLemmas.{Admissible, OfEachPlan, PlanMakesNew, of_given}

module _ (ro : Membership) (a : ℕ) (format : Format) (t : Truncate) where
  truncate_local : (T T' : Tree) (p : Plan) → Gives (truncate_rule ro T a format t) p → AgreeOn (plan_reads p) T T' → Gives (truncate_rule ro T' a format t) p
  truncate_local T T' p (touch, (f, at, (is, (holder, (fits, plan))))) agree =
      let all : AgreeOn (plan_reads (truncate_plan (value_number (val T (At f SizeOf))) t f)) T T' = subst (λ p. AgreeOn (plan_reads p) T T') (sym plan) agree in
      let reads : AgreeOn (InodeArea f SizePart ∷ file_areas t.file f) T T' = left (InodeArea f SizePart ∷ file_areas t.file f) _ all in
      let reads_f : AgreeOn (file_areas t.file f) T T' = later reads in
      (touch, (f, body_same t.file f at reads_f, (ap is_file_kind (kind_same reads_f) ∙ is, (holder, (fits, ap (λ v. truncate_plan (value_number v) t f) (size_same reads) ∙ plan)))))

  truncate_can : (T : Tree) (p : Plan) → Gives (truncate_rule ro T a format t) p → CanEdits T p.edits
  truncate_can T p (touch, (f, at, (is, (holder, (fits, plan))))) =
      subst (λ (p : Plan). CanEdits T p.edits) plan (((IsA_file T f is, size_is T f is), tt), tt)

truncate_new : (ro : Membership) (T : Tree) (a : ℕ) (format : Format) (t : Truncate) → OfEachPlan (PlanMakesNew T) (truncate_rule ro T a format t)
truncate_new ro T a format t = λ f. tt

truncate_row : (t : Truncate) → TruncateRow t
truncate_row t s f = record { reads = refl; writes = go (nat_eq s t.size) }
  where
    go : (b : Bool) → map (InodeArea f) (if b then [] else other_size_parts s t.size) ++ []
        ≡ (if b then [] else size_cell f ∷ block_cells (blocks_between (min s t.size) (max s t.size)) f ∷ [])
    go true = refl
    go false = refl

pub truncate_admissible : (t : Truncate) → Admissible (λ ro T x. truncate_rule ro T x.author x.format t) (TruncateRow t)
truncate_admissible t = record {
  local = λ ro x T T' p sound. truncate_local ro x.author x.format t T T' p;
  can = λ ro x T p sound. truncate_can ro x.author x.format t T p;
  new = λ ro x T p. of_given (PlanMakesNew T) (truncate_rule ro T x.author x.format t) p (truncate_new ro T x.author x.format t);
  row = truncate_row t;
}
