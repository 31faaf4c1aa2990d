-- A link depends on the cells that it reads, and its edits can be made.
use Rattle.std.proofs.Common.{◌≡◌, ℕ, ◌<◌, nat_lt, [], ◌∷◌, ◌++◌, Some, sym, ap, ◌∙◌, subst, arith}
use Rattle.std.specs.FinMap.{get}
use Rattle.su_bytes.specs.Membership.{Membership}
use Rattle.su_bytes.specs.declared.file_ids.Kind.TheVariants.{File, Dir}
use Rattle.su_table.specs.Tree.{Tree}
use Rattle.su_node.specs.Field.{Field.LinksOf}
use Rattle.su_table.specs.Cell.{Cell.At, val}
use Rattle.su_table.specs.Query.{is_dir_kind, is_file_kind, is_nothing, value_number, links_at}
use Rattle.su_node.specs.InodeChange.{InodeChange.Named}
use Rattle.su_table.specs.Edit.{Edit.Inodes, edit}
use Rattle.su_op.specs.declared.areas.Part.TheVariants.{Links as LinksPart, Name as NamePart}
use Rattle.su_op.specs.declared.areas.Area.TheVariants.{Inode as InodeArea}
use Rattle.su_op.specs.declared.link.Link.{Link}
use Rattle.su_op.specs.Limits.{most_links}
use Rattle.su_op.specs.Link.{link_rule, link_plan}
use Rattle.su_op.specs.Rule.{Plan, plan_reads, file_areas}
use Rattle.su_op.specs.Soundness.{IsA, Sound}
use Rattle.su_op.proofs.EditLemmas.{CanEdits}
use Rattle.su_op.proofs.RuleLemmas.{Gives, AgreeOn, left, right, later, kind_same, links_same, name_same, body_same, IsA_dir, IsA_file, kind_after_name}
use Rattle.su_op.specs.Link.{LinkRow}
use Rattle.std.proofs.Common.{refl}
use Rattle.su_op.proofs.RuleLemmas.{Admissible, OfEachPlan, PlanMakesNew, of_given}
use Rattle.std.proofs.lemmas.Bool.{ltb-true}

module _ (ro : Membership) (a : ℕ) (l : Link) where
  link_local : (T T' : Tree) (p : Plan) → Gives (link_rule ro T a l) p → AgreeOn (plan_reads p) T T' → Gives (link_rule ro T' a l) p
  link_local T T' p (touch, (touch', (d, at, (f, at_f, (is, (is_f, (holder, (holder', (new, (room, plan)))))))))) agree =
      let all : AgreeOn (plan_reads (link_plan (links_at T f) l d f)) T T' = subst (λ p. AgreeOn (plan_reads p) T T') (sym plan) agree in
      let reads = left (file_areas l.dir d ++ file_areas l.file f) _ all in
      let reads_d : AgreeOn (file_areas l.dir d) T T' = left (file_areas l.dir d) _ reads in
      let reads_f : AgreeOn (file_areas l.file f) T T' = right (file_areas l.dir d) _ reads in
      let w : AgreeOn (InodeArea d (NamePart l.name) ∷ InodeArea f LinksPart ∷ []) T T' = right (file_areas l.dir d ++ file_areas l.file f) _ all in
      let links : val T' (At f LinksOf) ≡ val T (At f LinksOf) = links_same (later w) in
      (touch, (touch', (d, body_same l.dir d at reads_d, (f, body_same l.file f at_f reads_f, (ap is_dir_kind (kind_same reads_d) ∙ is, (ap is_file_kind (kind_same reads_f) ∙ is_f, (holder, (holder', (ap is_nothing (name_same w) ∙ new, (ap (λ v. nat_lt (value_number v) most_links) links ∙ room, ap (λ v. link_plan (value_number v) l d f) links ∙ plan))))))))))

  link_can : (T : Tree) (p : Plan) → Sound T → Gives (link_rule ro T a l) p → CanEdits T p.edits
  link_can T p sound (touch, (touch', (d, at, (f, at_f, (is, (is_f, (holder, (holder', (new, (room, plan)))))))))) =
      let dir! : IsA Dir (get T.inodes d) = IsA_dir T d is in
      let few : links_at T f < most_links = ltb-true (links_at T f) most_links room in
      let file! : IsA File (get (edit T (Inodes d (Named l.name (Some l.file)))).inodes f) = IsA_file (edit T (Inodes d (Named l.name (Some l.file)))) f (ap is_file_kind (kind_after_name T d l.name (Some l.file) f dir!) ∙ is_f) in
      subst (λ (p : Plan). CanEdits T p.edits) plan ((dir!, tt), (((file!, omega arith, omega arith), tt), tt))

link_new : (ro : Membership) (T : Tree) (a : ℕ) (l : Link) → OfEachPlan (PlanMakesNew T) (link_rule ro T a l)
link_new ro T a l = λ d f. tt

link_row : (l : Link) → LinkRow l
link_row l links d f = record { reads = refl; writes = refl }

pub link_admissible : (l : Link) → Admissible (λ ro T x. link_rule ro T x.author l) (LinkRow l)
link_admissible l = record {
  local = λ ro x T T' p sound. link_local ro x.author l T T' p;
  can = λ ro x. link_can ro x.author l;
  new = λ ro x T p. of_given (PlanMakesNew T) (link_rule ro T x.author l) p (link_new ro T x.author l);
  row = link_row l;
}
