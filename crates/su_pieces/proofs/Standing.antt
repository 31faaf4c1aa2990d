-- Which inode stands for a file, after an edit of a tree.
use Rattle.std.proofs.Common.{◌≡◌, ℕ, Bool, true, false, cond, ◌∷◌, Option, Some, None, Ok, refl, sym, ap, ◌∙◌}
use Rattle.std.proofs.lemmas.Bool.{true≢false}
use Rattle.std.specs.Option.{ok_or}
use Rattle.std.specs.FinMap.{get}
use Rattle.su_bytes.specs.declared.file_ids.FileId.{FileId}
use Rattle.su_bytes.specs.declared.file_ids.FileId.TheVariants.{User, Group}
use Rattle.su_bytes.specs.declared.file_ids.Kind.{Kind}
use Rattle.su_bytes.specs.declared.refusals.Refusal.TheVariants.{WrongKind}
use Rattle.su_bytes.specs.Place.{Place, place_eq, file_eq}
use Rattle.su_node.specs.Inode.{Inode, kind_of}
use Rattle.su_node.specs.Field.{Field.KindOf, Value, Value.Nothing, Value.AKind, Value.ANumber, Value.ABlock, Value.AFile, Value.APlace, field_value}
use Rattle.su_node.specs.InodeChange.{InodeChange, inode_after}
use Rattle.su_table.specs.Tree.{Tree}
use Rattle.su_table.specs.Cell.{Cell.At, Cell.Pointer, val}
use Rattle.su_table.specs.Query.{is_nothing, is_free_at, home_body, pointer_body, body, standing_at, standing}
use Rattle.su_table.specs.Edit.{Edit.Inodes, edit, edits}
use Rattle.su_op.specs.Rule.{pointer_edits}
use Rattle.su_op.specs.Soundness.{Sound}
use Rattle.su_op.proofs.Public.{get-set_place, place_eq-itself, place_eq-same, pointer_is}

-- ---- file ids

pub file_eq-itself : (f : FileId) → file_eq f f ≡ true
file_eq-itself (User u i) = place_eq-itself (u, i)
file_eq-itself (Group g k) = place_eq-itself (g, k)

pub file_eq-same : (f g : FileId) → file_eq f g ≡ true → f ≡ g
file_eq-same (User u i) (User v j) e = ap (λ (p : Place). User p.0 p.1) (place_eq-same (u, i) (v, j) e)
file_eq-same (Group g k) (Group h l) e = ap (λ (p : Place). Group p.0 p.1) (place_eq-same (g, k) (h, l) e)
file_eq-same (User u i) (Group h l) e = absurd cc
file_eq-same (Group g k) (User v j) e = absurd cc

-- ---- bodies

pointer_value : (v : Value) (p : Place) → pointer_body v ≡ Some p → v ≡ APlace p
pointer_value (APlace q) p e = let same : q ≡ p = cc in ap APlace same
pointer_value Nothing p e = absurd cc
pointer_value (AKind k h) p e = absurd cc
pointer_value (ANumber n) p e = absurd cc
pointer_value (ABlock l) p e = absurd cc
pointer_value (AFile f) p e = absurd cc

-- a body at its own place, where that has this value
home_value : (v : Value) (f : FileId) (q p : Place) → home_body v f q ≡ Some p → (k : Kind) × (v ≡ AKind k f) × (q ≡ p)
home_value (AKind k h) f q p e = go (file_eq h f) refl e
  where
    go : (b : Bool) → file_eq h f ≡ b → cond b (Some q) None ≡ Some p → (j : Kind) × (AKind k h ≡ AKind j f) × (q ≡ p)
    go true same is = (k, ap (AKind k) (file_eq-same h f same), cc)
    go false same is = absurd cc
home_value Nothing f q p e = absurd cc
home_value (ANumber n) f q p e = absurd cc
home_value (ABlock l) f q p e = absurd cc
home_value (AFile g) f q p e = absurd cc
home_value (APlace r) f q p e = absurd cc

-- what stands at the body of a file was made for it
pub body_home : (T : Tree) (f : FileId) (p : Place) → Sound T → body T f ≡ Some p → (k : Kind) × (val T (At p KindOf) ≡ AKind k f)
unfolding body
body_home T (User u i) p sound is =
    let (k, home, at) = home_value (val T (At (u, i) KindOf)) (User u i) (u, i) p is in
    (k, ap (λ q. val T (At q KindOf)) (sym at) ∙ home)
body_home T (Group g k) p sound is = sound.homes (g, k) p (pointer_value (val T (Pointer (g, k))) p is)

home_same : (j k : Kind) (f g : FileId) → AKind j f ≡ AKind k g → f ≡ g
home_same j k f g e = cc

-- no two files stand at one place
pub one_body : (T : Tree) (f g : FileId) (p : Place) → Sound T → body T f ≡ Some p → body T g ≡ Some p → f ≡ g
one_body T f g p sound a b = let (j, x) = body_home T f p sound a in let (k, y) = body_home T g p sound b in home_same j k f g (sym x ∙ y)

-- and none where nothing stands
pub body_taken : (T : Tree) (f : FileId) (p : Place) → Sound T → body T f ≡ Some p → is_free_at T p ≡ true → ⊥
body_taken T f p sound is free = let (k, home) = body_home T f p sound is in true≢false (sym free ∙ ap is_nothing home)

-- ---- what stands for one file changes

-- another inode stands for the file, and the same for each other one
pub record Changed (T T' : Tree) (f : FileId) (j : Inode) : Type 0 where
  pub here : standing T' f ≡ Ok j
  pub others : (g : FileId) → (g ≡ f → ⊥) → standing T' g ≡ standing T g

-- pointers stay
pointer_under : (T : Tree) (p : Place) (ch : InodeChange) (g : Place) → val (edit T (Inodes p ch)) (Pointer g) ≡ val T (Pointer g)
unfolding val edit
pointer_under T p ch g = refl

-- ---- a change of what stands at the place of a file, to an inode of the same kind and home
module _ (T : Tree) (p : Place) (ch : InodeChange) (f : FileId) (i j : Inode) (sound : Sound T) (at : body T f ≡ Some p)
    (stands : get T.inodes p ≡ Some i) (after : inode_after ch (Some i) ≡ Some j) (kind : field_value (Some j) KindOf ≡ field_value (Some i) KindOf) where
  altered_inode : (q : Place) → get (edit T (Inodes p ch)).inodes q ≡ cond (place_eq q p) (Some j) (get T.inodes q)
  unfolding edit
  altered_inode q = get-set_place T.inodes p (inode_after ch (get T.inodes p)) q ∙ ap (λ o. cond (place_eq q p) o (get T.inodes q)) (ap (inode_after ch) stands ∙ after)

  altered_kind : (q : Place) → val (edit T (Inodes p ch)) (At q KindOf) ≡ val T (At q KindOf)
  unfolding val
  altered_kind q = ap (λ o. field_value o KindOf) (altered_inode q) ∙ go (place_eq q p) refl
    where
      go : (b : Bool) → place_eq q p ≡ b → field_value (cond b (Some j) (get T.inodes q)) KindOf ≡ field_value (get T.inodes q) KindOf
      go true same = kind ∙ ap (λ o. field_value o KindOf) (sym stands) ∙ ap (λ r. field_value (get T.inodes r) KindOf) (sym (place_eq-same q p same))
      go false same = refl

  pub altered_body : (g : FileId) → body (edit T (Inodes p ch)) g ≡ body T g
  unfolding body
  altered_body (User u n) = ap (λ v. home_body v (User u n) (u, n)) (altered_kind (u, n))
  altered_body (Group g k) = ap pointer_body (pointer_under T p ch (g, k))

  altered_here : standing (edit T (Inodes p ch)) f ≡ Ok j
  unfolding standing
  altered_here =
      ap (standing_at (edit T (Inodes p ch)) f) (altered_body f ∙ at)
      ∙ ap (λ o. ok_or o (WrongKind f)) (altered_inode p ∙ ap (λ b. cond b (Some j) (get T.inodes p)) (place_eq-itself p))

  altered_other : (g : FileId) → (g ≡ f → ⊥) → standing (edit T (Inodes p ch)) g ≡ standing T g
  unfolding standing
  altered_other g other = ap (standing_at (edit T (Inodes p ch)) g) (altered_body g) ∙ go (body T g) refl
    where
      apart : (q : Place) → body T g ≡ Some q → (b : Bool) → place_eq q p ≡ b → cond b (Some j) (get T.inodes q) ≡ get T.inodes q
      apart q is true same = absurd (other (one_body T g f p sound (is ∙ ap Some (place_eq-same q p same)) at))
      apart q is false same = refl

      go : (o : Option Place) → body T g ≡ o → standing_at (edit T (Inodes p ch)) g o ≡ standing_at T g o
      go None is = refl
      go (Some q) is = ap (λ o. ok_or o (WrongKind g)) (altered_inode q ∙ apart q is (place_eq q p) refl)

  pub altered : Changed T (edit T (Inodes p ch)) f j
  altered = record { here = altered_here; others = altered_other }

  -- what stands at other places is the same
  pub altered_free : (q : Place) → is_free_at (edit T (Inodes p ch)) q ≡ is_free_at T q
  altered_free q = ap is_nothing (altered_kind q)

-- ---- an inode that is made where nothing stands, for a file that has no body there, and whose pointer then points at it

inodes_pointed : (U : Tree) (f : FileId) (v : Option Place) → (edits U (pointer_edits f v)).inodes ≡ U.inodes
unfolding edit
inodes_pointed U (User u n) v = refl
inodes_pointed U (Group g k) v = refl

module _ (T : Tree) (q : Place) (ch : InodeChange) (f : FileId) (i : Inode) (free : is_free_at T q ≡ true)
    (none : (g : FileId) → body T g ≡ Some q → ⊥) (after : inode_after ch (get T.inodes q) ≡ Some i)
    (home : i.home ≡ f) (own : (u n : ℕ) → f ≡ User u n → q ≡ (u, n)) where
  abbrev Added : Tree
  Added = edits T (Inodes q ch ∷ pointer_edits f (Some q))

  added_inode : (r : Place) → get Added.inodes r ≡ cond (place_eq r q) (Some i) (get T.inodes r)
  unfolding edit
  added_inode r =
      ap (λ m. get m r) (inodes_pointed (edit T (Inodes q ch)) f (Some q))
      ∙ get-set_place T.inodes q (inode_after ch (get T.inodes q)) r ∙ ap (λ o. cond (place_eq r q) o (get T.inodes r)) after

  added_kind : (r : Place) → val Added (At r KindOf) ≡ cond (place_eq r q) (AKind (kind_of i.content) f) (val T (At r KindOf))
  unfolding val
  added_kind r = ap (λ o. field_value o KindOf) (added_inode r) ∙ go (place_eq r q)
    where
      go : (b : Bool) → field_value (cond b (Some i) (get T.inodes r)) KindOf ≡ cond b (AKind (kind_of i.content) f) (field_value (get T.inodes r) KindOf)
      go true = ap (AKind (kind_of i.content)) home
      go false = refl

  added_body : body Added f ≡ Some q
  unfolding body
  added_body = go f refl
    where
      go : (g : FileId) → f ≡ g → body Added f ≡ Some q
      go (User u n) is =
          let at : q ≡ (u, n) = own u n is in
          ap (body Added) is
          ∙ ap (λ v. home_body v (User u n) (u, n)) (added_kind (u, n) ∙ ap (λ r. cond (place_eq r q) (AKind (kind_of i.content) f) (val T (At r KindOf))) (sym at)
          ∙ ap (λ b. cond b (AKind (kind_of i.content) f) (val T (At q KindOf))) (place_eq-itself q) ∙ ap (AKind (kind_of i.content)) is)
          ∙ ap (λ b. cond b (Some (u, n)) None) (file_eq-itself (User u n)) ∙ ap Some (sym at)
      go (Group g k) is =
          let U = edit T (Inodes q ch) in
          ap (λ h. body (edits U (pointer_edits h (Some q))) h) is
          ∙ ap pointer_body (pointer_is U (g, k) (Some q) (g, k) ∙ ap (λ b. cond b (APlace q) (val U (Pointer (g, k)))) (place_eq-itself (g, k)))

  kind_elsewhere : (g : FileId) → (g ≡ f → ⊥) → (r : Place) → home_body (val Added (At r KindOf)) g r ≡ home_body (val T (At r KindOf)) g r
  kind_elsewhere g other r = ap (λ v. home_body v g r) (added_kind r) ∙ go (place_eq r q) refl
    where
      nothing : (v : Value) → is_nothing v ≡ true → home_body v g r ≡ None
      nothing Nothing e = refl
      nothing (AKind k h) e = absurd cc
      nothing (ANumber n) e = absurd cc
      nothing (ABlock l) e = absurd cc
      nothing (AFile f) e = absurd cc
      nothing (APlace p) e = absurd cc

      not_home : (b : Bool) → file_eq f g ≡ b → cond b (Some r) None ≡ None
      not_home true same = absurd (other (sym (file_eq-same f g same)))
      not_home false same = refl

      go : (b : Bool) → place_eq r q ≡ b → home_body (cond b (AKind (kind_of i.content) f) (val T (At r KindOf))) g r ≡ home_body (val T (At r KindOf)) g r
      go true same = not_home (file_eq f g) refl ∙ sym (nothing (val T (At r KindOf)) (ap (λ s. is_nothing (val T (At s KindOf))) (place_eq-same r q same) ∙ free))
      go false same = refl

  pointer_elsewhere : (h l : ℕ) → (Group h l ≡ f → ⊥) → val Added (Pointer (h, l)) ≡ val T (Pointer (h, l))
  pointer_elsewhere h l other = go f refl
    where
      U : Tree
      U = edit T (Inodes q ch)

      step : (g k : ℕ) → f ≡ Group g k → (b : Bool) → place_eq (h, l) (g, k) ≡ b → cond b (APlace q) (val U (Pointer (h, l))) ≡ val U (Pointer (h, l))
      step g k is true same = absurd (other (ap (λ (p : Place). Group p.0 p.1) (place_eq-same (h, l) (g, k) same) ∙ sym is))
      step g k is false same = refl

      go : (g : FileId) → f ≡ g → val Added (Pointer (h, l)) ≡ val T (Pointer (h, l))
      go (User u n) is = ap (λ g. val (edits U (pointer_edits g (Some q))) (Pointer (h, l))) is ∙ pointer_under T q ch (h, l)
      go (Group g k) is =
          ap (λ g. val (edits U (pointer_edits g (Some q))) (Pointer (h, l))) is
          ∙ pointer_is U (g, k) (Some q) (h, l) ∙ step g k is (place_eq (h, l) (g, k)) refl ∙ pointer_under T q ch (h, l)

  added_other_body : (g : FileId) → (g ≡ f → ⊥) → body Added g ≡ body T g
  unfolding body
  added_other_body (User u n) other = kind_elsewhere (User u n) other (u, n)
  added_other_body (Group h l) other = ap pointer_body (pointer_elsewhere h l other)

  added_here : standing Added f ≡ Ok i
  unfolding standing
  added_here =
      ap (standing_at Added f) added_body
      ∙ ap (λ o. ok_or o (WrongKind f)) (added_inode q ∙ ap (λ b. cond b (Some i) (get T.inodes q)) (place_eq-itself q))

  added_other : (g : FileId) → (g ≡ f → ⊥) → standing Added g ≡ standing T g
  unfolding standing
  added_other g other = ap (standing_at Added g) (added_other_body g other) ∙ go (body T g) refl
    where
      apart : (r : Place) → body T g ≡ Some r → (b : Bool) → place_eq r q ≡ b → cond b (Some i) (get T.inodes r) ≡ get T.inodes r
      apart r is true same = absurd (none g (is ∙ ap Some (place_eq-same r q same)))
      apart r is false same = refl

      go : (o : Option Place) → body T g ≡ o → standing_at Added g o ≡ standing_at T g o
      go None is = refl
      go (Some r) is = ap (λ o. ok_or o (WrongKind g)) (added_inode r ∙ apart r is (place_eq r q) refl)

  pub added : Changed T Added f i
  added = record { here = added_here; others = added_other }
