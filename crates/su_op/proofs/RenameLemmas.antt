-- A rename depends on the cells that it reads, and its edits can be made.
use Rattle.std.proofs.Common.{◌≡◌, ℕ, Bool, true, false, cond, not, ◌||◌, nat_eq, [], ◌∷◌, ◌++◌, Option, Some, None, is_some, refl, sym, ap, ◌∙◌, subst}
use Rattle.std.specs.FinMap.{get}
use Rattle.su_bytes.specs.Membership.{Membership}
use Rattle.su_bytes.specs.declared.file_ids.FileId.{FileId}
use Rattle.su_bytes.specs.declared.file_ids.Kind.TheVariants.{Dir}
use Rattle.su_bytes.specs.Place.{Place}
use Rattle.su_table.specs.Tree.{Tree}
use Rattle.su_table.specs.Query.{is_dir_kind, is_link_to, is_nothing, is_dir_at, leads_to_at, is_name_free_at, body}
use Rattle.su_node.specs.InodeChange.{InodeChange.Named}
use Rattle.su_table.specs.Edit.{Edit.Inodes, edit}
use Rattle.su_op.specs.declared.areas.Part.TheVariants.{Name as NamePart}
use Rattle.su_op.specs.declared.areas.Area.TheVariants.{Inode as InodeArea}
use Rattle.su_op.specs.declared.rename.Rename.{Rename}
use Rattle.su_op.specs.Rename.{stays, moved, moved_areas, moves_directory, rename_rule, rename_rule_at, rename_plan}
use Rattle.su_op.specs.Rule.{Plan, Rule, Rule.Demand, refusal, plan_reads, file_areas}
use Rattle.su_bytes.specs.declared.refusals.Refusal.{Refusal}
use Rattle.su_bytes.specs.declared.refusals.Refusal.TheVariants.{Exists}
use Rattle.su_op.specs.Soundness.{IsA}
use Rattle.su_op.proofs.EditLemmas.{CanEdits}
use Rattle.su_op.proofs.RuleLemmas.{Gives, AgreeOn, left, right, later, kind_same, name_same, body_same, IsA_dir, kind_after_name}
use Rattle.su_op.specs.Rename.{RenameRow}
use Rattle.su_op.proofs.RuleLemmas.{Admissible, OfEachPlan, PlanMakesNew, of_given}

there_is : {A : Type 0} (o : Option A) → is_some o ≡ true → (x : A) × (o ≡ Some x)
there_is None e = absurd cc
there_is (Some x) e = (x, refl)

module _ (T T' : Tree) (file : FileId) where
  -- the file is found again where it was looked for
  found_same : (within : Bool) → (within || is_some (cond within None (body T file))) ≡ true → AgreeOn (moved_areas file (cond within None (body T file))) T T' → cond within None (body T' file) ≡ cond within None (body T file)
  found_same true found agree = refl
  found_same false found agree =
      let (f, is) = there_is (body T file) found in
      body_same file f is (subst (λ o. AgreeOn (moved_areas file o) T T') is agree) ∙ sym is

  moves_same : (m : Option Place) → AgreeOn (moved_areas file m) T T' → moves_directory T' m ≡ moves_directory T m
  moves_same None agree = refl
  moves_same (Some f) agree = ap is_dir_kind (kind_same agree)

module _ (ro : Membership) (a : ℕ) (r : Rename) where
  rename_local : (T T' : Tree) (p : Plan) → Gives (rename_rule ro T a r) p → AgreeOn (plan_reads p) T T' → Gives (rename_rule ro T' a r) p
  rename_local T T' p (touch, (touch', (d, at_d, (t, at_t, (found, (dir_d, (dir_t, (holder_d, (holder_t, (named, (new, (stay, plan)))))))))))) agree =
      let m : Option Place = moved T r in
      let all : AgreeOn (plan_reads (rename_plan m r d t)) T T' = subst (λ p. AgreeOn (plan_reads p) T T') (sym plan) agree in
      let reads : AgreeOn (file_areas r.from_ d ++ file_areas r.to_ t ++ moved_areas r.file m) T T' = left (file_areas r.from_ d ++ file_areas r.to_ t ++ moved_areas r.file m) _ all in
      let reads_both : AgreeOn (file_areas r.from_ d ++ file_areas r.to_ t) T T' = left (file_areas r.from_ d ++ file_areas r.to_ t) _ reads in
      let reads_d : AgreeOn (file_areas r.from_ d) T T' = left (file_areas r.from_ d) _ reads_both in
      let reads_t : AgreeOn (file_areas r.to_ t) T T' = right (file_areas r.from_ d) _ reads_both in
      let reads_m : AgreeOn (moved_areas r.file m) T T' = right (file_areas r.from_ d ++ file_areas r.to_ t) _ reads in
      let w : AgreeOn (InodeArea t (NamePart r.new_) ∷ InodeArea d (NamePart r.old_) ∷ []) T T' = right (file_areas r.from_ d ++ file_areas r.to_ t ++ moved_areas r.file m) _ all in
      let same : moved T' r ≡ m = found_same T T' r.file (stays r) found reads_m in (
        touch,
        (
          touch',
          (
            d,
            body_same r.from_ d at_d reads_d,
            (
              t,
              body_same r.to_ t at_t reads_t,
              (
                ap (λ o. stays r || is_some o) same ∙ found,
                (
                  ap is_dir_kind (kind_same reads_d) ∙ dir_d,
                  (
                    ap is_dir_kind (kind_same reads_t) ∙ dir_t,
                    (
                      holder_d,
                      (
                        holder_t,
                        (ap (λ v. is_link_to v r.file) (name_same (later w)) ∙ named, (ap is_nothing (name_same w) ∙ new, (ap (λ o. not (moves_directory T' o)) same ∙ ap not (moves_same T T' r.file m reads_m) ∙ stay, ap (λ o. rename_plan o r d t) same ∙ plan))),
                      ),
                    ),
                  ),
                ),
              ),
            ),
          ),
        ),
      )

  rename_can : (T : Tree) (p : Plan) → Gives (rename_rule ro T a r) p → CanEdits T p.edits
  rename_can T p (touch, (touch', (d, at_d, (t, at_t, (found, (dir_d, (dir_t, (holder_d, (holder_t, (named, (new, (stay, plan)))))))))))) =
      let target! : IsA Dir (get T.inodes t) = IsA_dir T t dir_t in
      let named : Tree = edit T (Inodes t (Named r.new_ (Some r.file))) in
      let source! : IsA Dir (get named.inodes d) = IsA_dir named d (ap is_dir_kind (kind_after_name T t r.new_ (Some r.file) d target!) ∙ dir_d) in
      subst (λ (p : Plan). CanEdits T p.edits) plan ((target!, tt), ((source!, tt), tt))

-- ---- what is asked of the directories, up to the new name

passes : (b : Bool) (r : Refusal) (k : Rule) → b ≡ true → refusal (Demand b r k) ≡ refusal k
passes b r k e = ap (λ b. refusal (Demand b r k)) e

fails : (b : Bool) (r : Refusal) (k : Rule) → b ≡ false → refusal (Demand b r k) ≡ Some r
fails b r k e = ap (λ b. refusal (Demand b r k)) e

module _ (T : Tree) (a : ℕ) (r : Rename) (m : Option Place) (d t : Place) (dir_d : is_dir_at T d ≡ true) (dir_t : is_dir_at T t ≡ true) (holder_d : nat_eq d.0 a ≡ true) (holder_t : nat_eq t.0 a ≡ true) (named : leads_to_at T d r.old_ r.file ≡ true) where
  pub refused_as_there : is_name_free_at T t r.new_ ≡ false → refusal (rename_rule_at T a r m d t) ≡ Some Exists
  refused_as_there there = passes _ _ _ dir_d ∙ passes _ _ _ dir_t ∙ passes _ _ _ holder_d ∙ passes _ _ _ holder_t ∙ passes _ _ _ named ∙ fails _ _ _ there

  pub accepted_at : is_name_free_at T t r.new_ ≡ true → moves_directory T m ≡ false → refusal (rename_rule_at T a r m d t) ≡ None
  accepted_at new stay = passes _ _ _ dir_d ∙ passes _ _ _ dir_t ∙ passes _ _ _ holder_d ∙ passes _ _ _ holder_t ∙ passes _ _ _ named ∙ passes _ _ _ new ∙ passes _ _ _ (ap not stay)

rename_new : (ro : Membership) (T : Tree) (a : ℕ) (r : Rename) → OfEachPlan (PlanMakesNew T) (rename_rule ro T a r)
rename_new ro T a r = λ d t. tt

rename_row : (r : Rename) → RenameRow r
rename_row r moved d t = record { reads = refl; writes = refl }

pub rename_admissible : (r : Rename) → Admissible (λ ro T x. rename_rule ro T x.author r) (RenameRow r)
rename_admissible r = record {
  local = λ ro x T T' p sound. rename_local ro x.author r T T' p;
  can = λ ro x T p sound. rename_can ro x.author r T p;
  new = λ ro x T p. of_given (PlanMakesNew T) (rename_rule ro T x.author r) p (rename_new ro T x.author r);
  row = rename_row r;
}
