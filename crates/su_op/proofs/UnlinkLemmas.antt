-- An unlink depends on the cells that it reads, and its edits can be made.
use Rattle.std.proofs.Common.{◌≡◌, ℕ, ◌≤◌, Bool, true, false, cond, nat_le, [], ◌∷◌, ◌++◌, Some, None, refl, sym, ap, ◌∙◌, subst, arith}
use Rattle.std.proofs.lemmas.Bool.{leb-true}
use Rattle.std.specs.Bool.{if◌then◌else◌}
use Rattle.std.specs.FinMap.{get}
use Rattle.su_bytes.specs.Membership.{Membership}
use Rattle.su_bytes.specs.declared.file_ids.FileId.{FileId}
use Rattle.su_bytes.specs.declared.file_ids.FileId.TheVariants.{User, Group}
use Rattle.su_bytes.specs.declared.file_ids.Kind.TheVariants.{Dir}
use Rattle.su_bytes.specs.Place.{Place, place_eq}
use Rattle.su_table.specs.Tree.{Tree}
use Rattle.su_node.specs.Field.{Field.KindOf, Field.LinksOf, Value.Nothing, Value.APlace}
use Rattle.su_table.specs.Cell.{Cell.At, Cell.Pointer, val}
use Rattle.su_table.specs.Query.{is_dir_kind, is_file_kind, is_link_to, value_number, body, is_bare_at}
use Rattle.su_node.specs.InodeChange.{InodeChange.Named, InodeChange.Gone}
use Rattle.su_table.specs.Edit.{Edit.Inodes, edit}
use Rattle.su_op.specs.declared.areas.Part.TheVariants.{Name as NamePart, Whole as WholePart}
use Rattle.su_op.specs.declared.areas.Area.TheVariants.{Inode as InodeArea}
use Rattle.su_op.specs.declared.unlink.Unlink.{Unlink}
use Rattle.su_op.specs.Footprint.{edits_areas}
use Rattle.su_op.specs.Rule.{Plan, plan_reads, pointer_edits, file_areas}
use Rattle.su_op.specs.Unlink.{unlink_rule, unlink_plan, link_goes, fewer_links, file_goes}
use Rattle.su_op.specs.Soundness.{IsA, Sound}
use Rattle.su_op.proofs.KeyLemmas.{place_eq-itself}
use Rattle.su_op.proofs.EditLemmas.{CanEdits, MakesNew, pointer_after, pointer_is}
use Rattle.su_op.proofs.RuleLemmas.{Gives, AgreeOn, left, right, later, kind_same, links_same, name_same, field_same, whole_same, body_same, IsA_dir, IsA_file, many_links, bare_file, bare_same, kind_after_name, few_links, user_home, one_group, pointer_of_body}
use Rattle.su_op.specs.Unlink.{UnlinkRow}
use Rattle.su_op.specs.Area.{links_cell, name_cell, all_cells}
use Rattle.su_op.specs.Rule.{pointer_areas}
use Rattle.su_op.proofs.RuleLemmas.{Admissible, OfEachPlan, PlanMakesNew, of_given}
use Rattle.su_table.specs.Query.{links_at}

whole_of : (T T' : Tree) (f : Place) (file : FileId) → AgreeOn (edits_areas (file_goes file f)) T T' → AgreeOn (InodeArea f WholePart ∷ []) T T'
whole_of T T' f (User u i) agree = agree
whole_of T T' f (Group g k) agree = later agree

module _ (ro : Membership) (a : ℕ) (u : Unlink) where
  unlink_local : (T T' : Tree) (p : Plan) → Sound T → Gives (unlink_rule ro T a u) p → AgreeOn (plan_reads p) T T' → Gives (unlink_rule ro T' a u) p
  unlink_local T T' p sound (touch, (touch', (d, at, (f, at_f, (is, (holder, (holder', (named, (empty, plan))))))))) agree =
      let l : ℕ = value_number (val T (At f LinksOf)) in
      let all : AgreeOn (plan_reads (unlink_plan l u d f)) T T' = subst (λ p. AgreeOn (plan_reads p) T T') (sym plan) agree in
      let reads = left (file_areas u.dir d ++ file_areas u.file f) _ all in
      let reads_d : AgreeOn (file_areas u.dir d) T T' = left (file_areas u.dir d) _ reads in
      let reads_f : AgreeOn (file_areas u.file f) T T' = right (file_areas u.dir d) _ reads in
      let w : AgreeOn (InodeArea d (NamePart u.name) ∷ edits_areas (link_goes l u.file f)) T T' = right (file_areas u.dir d ++ file_areas u.file f) _ all in
      let (links, empty') = go f empty (nat_le 2 l) refl (kind_same reads_f) (later w) in
      (touch, (touch', (d, body_same u.dir d at reads_d, (f, body_same u.file f at_f reads_f, (ap is_dir_kind (kind_same reads_d) ∙ is, (holder, (holder', (ap (λ v. is_link_to v u.file) (name_same w) ∙ named, (empty', ap (λ v. unlink_plan (value_number v) u d f) links ∙ plan)))))))))
    where
      go : (f : Place) → is_bare_at T f ≡ true → (b : Bool) → nat_le 2 (value_number (val T (At f LinksOf))) ≡ b → val T' (At f KindOf) ≡ val T (At f KindOf)
          → AgreeOn (edits_areas (if b then fewer_links (value_number (val T (At f LinksOf))) f else file_goes u.file f)) T T' → (val T' (At f LinksOf) ≡ val T (At f LinksOf)) × (is_bare_at T' f ≡ true)
      go f empty true many kind agree = (links_same agree, bare_file T' f (ap is_file_kind kind ∙ many_links T f ((sound.linked f).one) many))
      go f empty false last kind agree = let w = whole_of T T' f u.file agree in (field_same LinksOf w, bare_same T T' f (whole_same w) ∙ empty)

  -- an inode that goes is no group file's body once its own pointer is gone
  last_can : (T : Tree) (d f : Place) → Sound T → (file : FileId) → body T file ≡ Some f → CanEdits (edit T (Inodes d (Named u.name None))) (pointer_edits file None ++ Inodes f Gone ∷ [])
  last_can T d f sound (User v i) at = (
    (
      tt,
      λ g e.
          let was : val T (Pointer g) ≡ APlace f = sym (pointer_after T d (Named u.name None) g) ∙ e in
          let (k, h) = sound.homes g f was in user_home T (v, i) f g k at h,
    ),
    tt,
  )
  last_can T d f sound (Group h i) at = (tt, ((tt, λ g e. go g (place_eq g (h, i)) refl (sym (pointer_is (edit T (Inodes d (Named u.name None))) (h, i) None g) ∙ e)), tt))
    where
      go : (g : Place) (b : Bool) → place_eq g (h, i) ≡ b → cond b Nothing (val (edit T (Inodes d (Named u.name None))) (Pointer g)) ≡ APlace f → ⊥
      go g true is e = absurd cc
      go g false is e =
          let was : val T (Pointer g) ≡ APlace f = sym (pointer_after T d (Named u.name None) g) ∙ e in
          let same : g ≡ (h, i) = one_group T g (h, i) f sound was (pointer_of_body T (h, i) f at) in
          apart (sym (place_eq-itself (h, i)) ∙ ap (λ r. place_eq r (h, i)) (sym same) ∙ is)
        where
          apart : true ≡ false → ⊥
          apart e = absurd cc

  unlink_can : (T : Tree) (p : Plan) → Sound T → Gives (unlink_rule ro T a u) p → CanEdits T p.edits
  unlink_can T p sound (touch, (touch', (d, at, (f, at_f, (is, (holder, (holder', (named, (empty, plan))))))))) =
      let dir! : IsA Dir (get T.inodes d) = IsA_dir T d is in
      let links : ℕ = value_number (val T (At f LinksOf)) in
      subst (λ (p : Plan). CanEdits T p.edits) plan ((dir!, tt), go d f at_f dir! (nat_le 2 links) refl)
    where
      go : (d f : Place) → body T u.file ≡ Some f → IsA Dir (get T.inodes d) → (b : Bool) → nat_le 2 (value_number (val T (At f LinksOf))) ≡ b → CanEdits (edit T (Inodes d (Named u.name None))) (if b then fewer_links (value_number (val T (At f LinksOf))) f else file_goes u.file f)
      go d f at_f dir! true many =
          let two : 2 ≤ value_number (val T (At f LinksOf)) = leb-true 2 _ many in
          let few : value_number (val T (At f LinksOf)) ≤ 255 = few_links T f sound many in
          (((IsA_file (edit T (Inodes d (Named u.name None))) f (ap is_file_kind (kind_after_name T d u.name None f dir!) ∙ many_links T f ((sound.linked f).one) many), omega arith, omega arith), tt), tt)
      go d f at_f dir! false last = last_can T d f sound u.file at_f

unlink_new : (ro : Membership) (T : Tree) (a : ℕ) (u : Unlink) → OfEachPlan (PlanMakesNew T) (unlink_rule ro T a u)
unlink_new ro T a u = λ d f. go (nat_le 2 (links_at T f)) u.file (links_at T f) f
  where
    go : (b : Bool) (file : FileId) (links : ℕ) (f : Place) → MakesNew T (if b then fewer_links links f else file_goes file f)
    go true file links f = tt
    go false (User v i) links f = tt
    go false (Group g k) links f = tt

unlink_row : (u : Unlink) → UnlinkRow u
unlink_row u l d f = record { reads = refl; writes = ap (λ w. name_cell u.name d ∷ w) (go (nat_le 2 l) u.file) }
  where
    go : (b : Bool) (file : FileId) → edits_areas (if b then fewer_links l f else file_goes file f) ≡ (if b then links_cell f ∷ [] else pointer_areas file ++ all_cells f ∷ [])
    go true file = refl
    go false (User v i) = refl
    go false (Group g k) = refl

pub unlink_admissible : (u : Unlink) → Admissible (λ ro T x. unlink_rule ro T x.author u) (UnlinkRow u)
unlink_admissible u = record {
  local = λ ro x. unlink_local ro x.author u;
  can = λ ro x. unlink_can ro x.author u;
  new = λ ro x T p. of_given (PlanMakesNew T) (unlink_rule ro T x.author u) p (unlink_new ro T x.author u);
  row = unlink_row u;
}
