-- A create depends on the cells that it reads, and its edits can be made.
use Rattle.std.proofs.Common.{◌≡◌, ℕ, ◌&&◌, ◌∷◌, Some, refl, sym, ap, ◌∙◌, subst}
use Rattle.std.specs.FinMap.{get}
use Rattle.std.proofs.lemmas.Bool.{and_parts}
use Rattle.su_bytes.specs.Membership.{Membership}
use Rattle.su_bytes.specs.declared.file_ids.Kind.TheVariants.{Dir}
use Rattle.su_node.specs.Inode.{kind_of, empty_content}
use Rattle.su_table.specs.Tree.{Tree}
use Rattle.su_node.specs.Field.{Field.KindOf, Value.Nothing, Value.AKind}
use Rattle.su_table.specs.Cell.{Cell.At, val}
use Rattle.su_table.specs.Query.{is_dir_kind, is_nothing, is_pointer_free}
use Rattle.su_node.specs.InodeChange.{InodeChange.Named, InodeChange.Made}
use Rattle.su_table.specs.Edit.{Edit.Inodes, edit}
use Rattle.su_op.specs.declared.areas.Part.TheVariants.{Kind as KindPart, Links as LinksPart, Size as SizePart, Name as NamePart}
use Rattle.su_op.specs.declared.areas.Area.TheVariants.{Inode as InodeArea}
use Rattle.su_op.specs.declared.create.Create.{Create}
use Rattle.su_op.specs.Footprint.{edits_areas}
use Rattle.su_op.specs.Rule.{Plan, plan_reads, pointer_edits, file_areas}
use Rattle.su_op.specs.Create.{create_rule, create_plan}
use Rattle.su_op.specs.Soundness.{IsA, Sound}
use Rattle.su_op.proofs.EditLemmas.{CanEdits, field_after}
use Rattle.su_op.proofs.RuleLemmas.{Gives, AgreeOn, left, right, later, kind_same, name_same, body_same, is_pointer_free_same, IsA_dir, nothing_is, no_inode, kind_after_name, can_pointer_some, nothing_free, free_after_name}
use Rattle.su_op.specs.Create.{CreateRow}
use Rattle.su_op.specs.Area.{kind_cell, links_cell, size_cell, name_cell}
use Rattle.su_op.proofs.RuleLemmas.{pointer_written}
use Rattle.su_op.proofs.RuleLemmas.{pointers_make_none}
use Rattle.su_op.proofs.RuleLemmas.{Admissible, PlanMakesNew}

module _ (ro : Membership) (a : ℕ) (c : Create) where
  create_local : (T T' : Tree) (p : Plan) → Gives (create_rule ro T a c) p → AgreeOn (plan_reads p) T T' → Gives (create_rule ro T' a c) p
  create_local T T' p (own, (touch, (touch', (d, at, (is, (holder, (free, (new, plan)))))))) agree =
      let all : AgreeOn (plan_reads (create_plan a c d)) T T' = subst (λ p. AgreeOn (plan_reads p) T T') (sym plan) agree in
      let reads : AgreeOn (file_areas c.dir d) T T' = left (file_areas c.dir d) _ all in
      let w1 : AgreeOn (InodeArea d (NamePart c.name) ∷ InodeArea (a, c.body) KindPart ∷ InodeArea (a, c.body) LinksPart ∷ InodeArea (a, c.body) SizePart ∷ edits_areas (pointer_edits c.file (Some (a, c.body)))) T T' = right (file_areas c.dir d) _ all in
      let w2 = later w1 in
      let free' = ap (λ b. b && is_nothing (val T' (At (a, c.body) KindOf))) (is_pointer_free_same c.file (Some (a, c.body)) (later (later (later w2)))) ∙ ap (λ v. is_pointer_free T c.file && is_nothing v) (kind_same w2) ∙ free in
      (own, (touch, (touch', (d, body_same c.dir d at reads, (ap is_dir_kind (kind_same reads) ∙ is, (holder, (free', (ap is_nothing (name_same w1) ∙ new, plan))))))))

  create_can : (T : Tree) (p : Plan) → Sound T → Gives (create_rule ro T a c) p → CanEdits T p.edits
  create_can T p sound (own, (touch, (touch', (d, at, (is, (holder, (free, (new, plan)))))))) =
      let dir! : IsA Dir (get T.inodes d) = IsA_dir T d is in
      let (_, nothing) = and_parts (is_pointer_free T c.file) _ free in
      let empty : val T (At (a, c.body) KindOf) ≡ Nothing = nothing_is _ nothing in
      let named : Tree = edit T (Inodes d (Named c.name (Some c.file))) in
      subst (λ (p : Plan). CanEdits T p.edits) plan (
        (dir!, tt),
        (
          (no_inode named (a, c.body) (kind_after_name T d c.name (Some c.file) (a, c.body) dir! ∙ empty), free_after_name T d c.name (Some c.file) (a, c.body) (nothing_free T (a, c.body) sound empty)),
          can_pointer_some (edit named (Inodes (a, c.body) (Made c.file c.kind))) c.file (a, c.body) (λ g e. (kind_of (empty_content c.kind), field_after named (a, c.body) (Made c.file c.kind) KindOf ∙ ap (AKind (kind_of (empty_content c.kind))) e)),
        ),
      )

create_new : (ro : Membership) (T : Tree) (a : ℕ) (c : Create) (p : Plan) → Gives (create_rule ro T a c) p → PlanMakesNew T p
create_new ro T a c p (own, (touch, (touch', (d, at, (is, (holder, (free, (new, plan)))))))) =
    let (_, nothing) = and_parts (is_pointer_free T c.file) _ free in
    subst (PlanMakesNew T) plan (nothing, pointers_make_none T c.file _)

create_row : (c : Create) → CreateRow c
create_row c a d = record {
  reads = refl;
  writes = ap (λ w. name_cell c.name d ∷ kind_cell (a, c.body) ∷ links_cell (a, c.body) ∷ size_cell (a, c.body) ∷ w) (pointer_written c.file _);
}

pub create_admissible : (c : Create) → Admissible (λ ro T x. create_rule ro T x.author c) (CreateRow c)
create_admissible c = record {
  local = λ ro x T T' p sound. create_local ro x.author c T T' p;
  can = λ ro x. create_can ro x.author c;
  new = λ ro x T. create_new ro T x.author c;
  row = create_row c;
}
