-- A take depends on the cells that it reads, and its edits can be made.
use Rattle.std.proofs.Common.{◌≡◌, ◌∙◌, ℕ, true, not, ◌&&◌, [], ◌∷◌, ◌++◌, map, nat_eq, Option, Some, None, refl, sym, ap, subst}
use Rattle.std.specs.FinMap.{get}
use Rattle.std.proofs.lemmas.Bool.{and_parts}
use Rattle.su_bytes.specs.Membership.{Membership}
use Rattle.su_bytes.specs.declared.file_ids.FileId.{FileId}
use Rattle.su_node.specs.Inode.{Inode}
use Rattle.su_node.specs.Field.{Field.KindOf, Value.Nothing, field_value}
use Rattle.su_node.specs.InodeChange.{InodeChange.Gone, inode_after}
use Rattle.su_bytes.specs.Place.{Place}
use Rattle.su_table.specs.Tree.{Tree}
use Rattle.su_table.specs.Cell.{Cell.At, val}
use Rattle.su_table.specs.Query.{is_nothing, is_free_at, body}
use Rattle.su_table.specs.Edit.{Edit.Inodes, edit, back, restoring}
use Rattle.su_table.proofs.Public.{edit-back}
use Rattle.su_op.specs.declared.areas.Part.TheVariants.{Whole as WholePart}
use Rattle.su_op.specs.declared.areas.Area.TheVariants.{Inode as InodeArea}
use Rattle.su_op.specs.declared.take.Take.{Take}
use Rattle.su_op.specs.Footprint.{parts, edits_areas}
use Rattle.su_op.specs.Rule.{Plan, plan_reads, plan_writes, pointer_edits, pointer_areas, file_areas}
use Rattle.su_op.specs.Take.{copy_of, take_rule, take_plan}
use Rattle.su_op.specs.Soundness.{WellLinked, IsBodyOf, Sound}
use Rattle.su_op.proofs.GrowthLemmas.{no_inode, back_gone, copied_gone}
use Rattle.su_op.proofs.EditLemmas.{IsFree, CanEdit, MakesNew, CanEdits, field_after}
use Rattle.su_op.proofs.RuleLemmas.{Gives, AgreeOn, left, right, later, field_same, whole_same, body_same, nothing_is, nothing_free, can_pointer_some, pointer_of_body}
use Rattle.su_op.specs.Take.{TakeRow}
use Rattle.su_op.proofs.RuleLemmas.{pointer_written}
use Rattle.su_op.proofs.RuleLemmas.{pointers_make_none}
use Rattle.su_op.proofs.RuleLemmas.{Admissible, OfEachPlan, PlanMakesNew, of_given}

copy_parts : (o : Option Inode) → parts (copy_of o) ≡ WholePart ∷ []
copy_parts None = refl
copy_parts (Some i) = refl

-- what a take writes doesn't depend on the inode
pub take_writes : (o : Option Inode) (a : ℕ) (t : Take) (f : Place) → plan_writes (take_plan o a t f) ≡ InodeArea (a, t.body) WholePart ∷ pointer_areas t.file
take_writes o a t f =
    ap (λ ps. map (InodeArea (a, t.body)) ps ++ edits_areas (pointer_edits t.file (Some (a, t.body)))) (copy_parts o)
    ∙ ap (λ w. InodeArea (a, t.body) WholePart ∷ w) (pointer_written t.file (Some (a, t.body)))

copied_is : (o was : Option Inode) → inode_after (copy_of o) was ≡ o
copied_is None was = refl
copied_is (Some i) was = refl

can_copy : (T : Tree) (p : Place) (o : Option Inode) → WellLinked o → IsFree T p → CanEdit T (Inodes p (copy_of o))
can_copy T p None linked free = (tt, free)
can_copy T p (Some i) linked free = (linked, free)

copy_makes_none : (T : Tree) (p : Place) (o : Option Inode) (f : FileId) (v : Option Place) → MakesNew T (Inodes p (copy_of o) ∷ pointer_edits f v)
copy_makes_none T p None f v = pointers_make_none T f v
copy_makes_none T p (Some i) f v = pointers_make_none T f v

-- what was made for a group file is so where it is copied to
copied_body : (T : Tree) (p f g : Place) → IsBodyOf T g f → IsBodyOf (edit T (Inodes p (copy_of (get T.inodes f)))) g p
unfolding val
copied_body T p f g (k, home) = (k, field_after T p (copy_of (get T.inodes f)) KindOf ∙ ap (λ o. field_value o KindOf) (copied_is (get T.inodes f) (get T.inodes p)) ∙ home)

module _ (ro : Membership) (a : ℕ) (t : Take) where
  take_local : (T T' : Tree) (p : Plan) → Gives (take_rule ro T a t) p → AgreeOn (plan_reads p) T T' → Gives (take_rule ro T' a t) p
  take_local T T' p (group, (touch, (f, at, (free, plan)))) agree =
      let o : Option Inode = get T.inodes f in
      let all : AgreeOn (plan_reads (take_plan o a t f)) T T' = subst (λ p. AgreeOn (plan_reads p) T T') (sym plan) agree in
      let reads : AgreeOn (InodeArea f WholePart ∷ file_areas t.file f) T T' = left (InodeArea f WholePart ∷ file_areas t.file f) _ all in
      let w : AgreeOn (plan_writes (take_plan o a t f)) T T' = right (InodeArea f WholePart ∷ file_areas t.file f) _ all in
      let new : AgreeOn (InodeArea (a, t.body) WholePart ∷ pointer_areas t.file) T T' = subst (λ w. AgreeOn w T T') (take_writes o a t f) w in
      let free' = ap (λ v. not (nat_eq f.0 a) && is_nothing v) (field_same KindOf new) ∙ free in
      (group, (touch, (f, body_same t.file f at (later reads), (free', ap (λ o. take_plan o a t f) (whole_same reads) ∙ plan))))

  take_can : (T : Tree) (p : Plan) → Sound T → Gives (take_rule ro T a t) p → CanEdits T p.edits
  take_can T p sound (group, (touch, (f, at, (free, plan)))) =
      let o : Option Inode = get T.inodes f in
      let (_, nothing) = and_parts (not (nat_eq f.0 a)) _ free in
      let empty : val T (At (a, t.body) KindOf) ≡ Nothing = nothing_is _ nothing in
      subst (λ (p : Plan). CanEdits T p.edits) plan (
        can_copy T (a, t.body) o (sound.linked f) (nothing_free T (a, t.body) sound empty),
        can_pointer_some (edit T (Inodes (a, t.body) (copy_of o))) t.file (a, t.body)
            (λ g e. copied_body T (a, t.body) f g (sound.homes g f (pointer_of_body T g f (ap (body T) (sym e) ∙ at)))),
      )

-- ---- a take whose pointer couldn't be moved

gone_free : (T : Tree) (p : Place) → is_free_at T p ≡ true → back T (Inodes p Gone) ≡ Inodes p Gone
unfolding val
gone_free T p free = back_gone T p ∙ ap (λ o. Inodes p (restoring o)) (no_inode (get T.inodes p) free)

-- what was copied to a place where nothing stood goes again
pub copied_back : (T : Tree) (p : Place) (o : Option Inode) → is_free_at T p ≡ true → edit (edit T (Inodes p (copy_of o))) (Inodes p Gone) ≡ T
copied_back T p (Some i) free = copied_gone T p i free
copied_back T p None free = ap (edit (edit T (Inodes p Gone))) (sym (gone_free T p free)) ∙ edit-back T (Inodes p Gone)

take_new : (ro : Membership) (T : Tree) (a : ℕ) (t : Take) → OfEachPlan (PlanMakesNew T) (take_rule ro T a t)
take_new ro T a t = λ f. copy_makes_none T (a, t.body) (get T.inodes f) t.file (Some (a, t.body))

take_row : (t : Take) → TakeRow t
take_row t o a f = record { reads = refl; writes = take_writes o a t f }

pub take_admissible : (t : Take) → Admissible (λ ro T x. take_rule ro T x.author t) (TakeRow t)
take_admissible t = record {
  local = λ ro x T T' p sound. take_local ro x.author t T T' p;
  can = λ ro x. take_can ro x.author t;
  new = λ ro x T p. of_given (PlanMakesNew T) (take_rule ro T x.author t) p (take_new ro T x.author t);
  row = take_row t;
}
