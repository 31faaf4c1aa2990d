-- What an accepted operation's checks say, and what stays where two trees agree on areas.
use Rattle.std.proofs.Common.{◌≡◌, ℕ, ◌≤◌, Bool, true, false, cond, ◌&&◌, ◌||◌, nat_le, List, ◌∷◌, ◌++◌, Option, Some, None, refl, sym, ap, ◌∙◌, subst}
use Rattle.std.proofs.lemmas.List.Folds.{list_any-append}
use Rattle.std.specs.FinMap.{get}
use Rattle.std.proofs.lemmas.Bool.{or_left, or_right, and_from}
use Rattle.su_bytes.specs.declared.file_ids.FileId.{FileId}
use Rattle.su_bytes.specs.declared.file_ids.FileId.TheVariants.{User, Group}
use Rattle.su_bytes.specs.declared.file_ids.Kind.{Kind}
use Rattle.su_bytes.specs.declared.file_ids.Kind.TheVariants.{File, Dir}
use Rattle.su_node.specs.Name.{Name}
use Rattle.su_bytes.specs.Place.{Place, place_eq, file_eq}
use Rattle.su_node.specs.Inode.{Inode, Content, Content.Bytes, Content.Names, kind_of}
use Rattle.su_table.specs.Tree.{Tree}
use Rattle.su_node.specs.Field.{Field, Field.KindOf, Field.LinksOf, Field.SizeOf, Field.NameOf, Value, Value.Nothing, Value.AKind, Value.ANumber, Value.ABlock, Value.AFile, Value.APlace, content_value, field_value}
use Rattle.su_table.specs.Cell.{Cell, Cell.At, Cell.Pointer, val}
use Rattle.su_node.specs.Inode.{has_no_names}
use Rattle.su_table.specs.Query.{is_nothing, is_dir_kind, is_file_kind, value_number, home_body, pointer_body, body, is_bare_at, is_pointer_free}
use Rattle.su_node.specs.InodeChange.{InodeChange.Named}
use Rattle.su_table.specs.Edit.{Edit.Inodes, edit}
use Rattle.su_op.specs.declared.areas.Part.TheVariants.{Kind as KindPart, Links as LinksPart, Size as SizePart, Name as NamePart, Whole as WholePart}
use Rattle.su_op.specs.declared.areas.Area.{Area}
use Rattle.su_op.specs.declared.areas.Area.TheVariants.{Inode as InodeArea, Pointer as PointerArea}
use Rattle.su_op.specs.Area.{in_area, has}
use Rattle.su_op.specs.Footprint.{edits_areas}
use Rattle.su_op.specs.Rule.{Plan, Rule, Rule.Accept, Rule.Demand, Rule.Find, refusal, plan_of, plan_reads, pointer_edits, file_areas}
use Rattle.su_op.specs.Soundness.{IsA, IsBodyOf, Sound}
use Rattle.su_op.specs.Action.{Action}
use Rattle.su_bytes.specs.Membership.{Membership}
use Rattle.su_op.proofs.KeyLemmas.{place_eq-itself, name_eq-itself}
use Rattle.su_op.proofs.InodeChangeLemmas.{HasOneLink, inode_same}
use Rattle.su_op.proofs.EditLemmas.{IsFree, CanEdits, MakesNew, edit_leaves, pointer_after}
use Rattle.su_op.specs.Rule.{pointer_areas}

-- each check passes, and this is the plan
abbrev pub Gives : Rule → Plan → Type 0
Gives (Accept q) p = q ≡ p
Gives (Demand b r k) p = (b ≡ true) × Gives k p
Gives (Find o r k) p = (x : Place) × (o ≡ Some x) × Gives (k x) p

-- ---- rules

pub gives_of : (k : Rule) → refusal k ≡ None → Gives k (plan_of k)
gives_of (Accept p) e = refl
gives_of (Demand true r k) e = (refl, gives_of k e)
gives_of (Demand false r k) e = absurd cc
gives_of (Find None r k) e = absurd cc
gives_of (Find (Some p) r k) e = (p, refl, gives_of (k p) e)

pub of_gives : (k : Rule) (p : Plan) → Gives k p → (refusal k ≡ None) × (plan_of k ≡ p)
of_gives (Accept q) p e = (refl, e)
of_gives (Demand true r k) p (b, g) = of_gives k p g
of_gives (Demand false r k) p (b, g) = absurd cc
of_gives (Find None r k) p (x, o, g) = absurd cc
of_gives (Find (Some y) r k) p (x, o, g) = let e : x ≡ y = cc in of_gives (k y) p (subst (λ z. Gives (k z) p) e g)

-- what holds of the plan at each place that may be found
abbrev pub OfEachPlan : (Plan → Type 0) → Rule → Type 0
OfEachPlan P (Accept p) = P p
OfEachPlan P (Demand b r k) = OfEachPlan P k
OfEachPlan P (Find o r k) = (x : Place) → OfEachPlan P (k x)

pub of_given : (P : Plan → Type 0) (k : Rule) (p : Plan) → OfEachPlan P k → Gives k p → P p
of_given P (Accept q) p each is = subst P is each
of_given P (Demand b r k) p each (passes, given) = of_given P k p each given
of_given P (Find o r k) p each (x, found, given) = of_given P (k x) p (each x) given

-- ---- two trees that agree on areas

pub record AgreeOn (w : List Area) (T T' : Tree) : Type 0 where
  pub each : (c : Cell) → has w c ≡ true → val T' c ≡ val T c

home_body_is : (v : Value) (f : FileId) (q p : Place) → home_body v f q ≡ Some p → q ≡ p
home_body_is (AKind k h) f q p e = go (file_eq h f) e
  where
    go : (b : Bool) → cond b (Some q) None ≡ Some p → q ≡ p
    go true e = cc
    go false e = absurd cc
home_body_is Nothing g q p e = absurd cc
home_body_is (ANumber n) g q p e = absurd cc
home_body_is (ABlock l) g q p e = absurd cc
home_body_is (AFile f) g q p e = absurd cc
home_body_is (APlace r) g q p e = absurd cc

module _ {T T' : Tree} where
  pub at_first : (a : Area) (w : List Area) (c : Cell) → AgreeOn (a ∷ w) T T' → in_area a c ≡ true → val T' c ≡ val T c
  at_first a w c agree here = agree.each c (or_left (in_area a c) (has w c) here)

  pub later : {a : Area} {w : List Area} → AgreeOn (a ∷ w) T T' → AgreeOn w T T'
  later {a} {w} agree = record { each = λ c here. agree.each c (or_right (in_area a c) (has w c) here) }

  pub left : (u w : List Area) → AgreeOn (u ++ w) T T' → AgreeOn u T T'
  left u w agree = record { each = λ c here. agree.each c (list_any-append (λ a. in_area a c) u w ∙ or_left (has u c) (has w c) here) }

  pub right : (u w : List Area) → AgreeOn (u ++ w) T T' → AgreeOn w T T'
  right u w agree = record { each = λ c here. agree.each c (list_any-append (λ a. in_area a c) u w ∙ or_right (has u c) (has w c) here) }

  pub kind_same : {p : Place} {w : List Area} → AgreeOn (InodeArea p KindPart ∷ w) T T' → val T' (At p KindOf) ≡ val T (At p KindOf)
  kind_same {p} {w} agree = at_first (InodeArea p KindPart) w (At p KindOf) agree (and_from _ true (place_eq-itself p) refl)

  pub links_same : {p : Place} {w : List Area} → AgreeOn (InodeArea p LinksPart ∷ w) T T' → val T' (At p LinksOf) ≡ val T (At p LinksOf)
  links_same {p} {w} agree = at_first (InodeArea p LinksPart) w (At p LinksOf) agree (and_from _ true (place_eq-itself p) refl)

  pub size_same : {p : Place} {w : List Area} → AgreeOn (InodeArea p SizePart ∷ w) T T' → val T' (At p SizeOf) ≡ val T (At p SizeOf)
  size_same {p} {w} agree = at_first (InodeArea p SizePart) w (At p SizeOf) agree (and_from _ true (place_eq-itself p) refl)

  pub name_same : {p : Place} {x : Name} {w : List Area} → AgreeOn (InodeArea p (NamePart x) ∷ w) T T' → val T' (At p (NameOf x)) ≡ val T (At p (NameOf x))
  name_same {p} {x} {w} agree = at_first (InodeArea p (NamePart x)) w (At p (NameOf x)) agree (and_from _ _ (place_eq-itself p) (name_eq-itself x))

  pub pointer_same : {g : Place} {w : List Area} → AgreeOn (PointerArea g ∷ w) T T' → val T' (Pointer g) ≡ val T (Pointer g)
  pointer_same {g} {w} agree = at_first (PointerArea g) w (Pointer g) agree (place_eq-itself g)

  pub field_same : {p : Place} (f : Field) {w : List Area} → AgreeOn (InodeArea p WholePart ∷ w) T T' → val T' (At p f) ≡ val T (At p f)
  field_same {p} f {w} agree = at_first (InodeArea p WholePart) w (At p f) agree (and_from _ true (place_eq-itself p) refl)

  pub whole_same : {p : Place} {w : List Area} → AgreeOn (InodeArea p WholePart ∷ w) T T' → get T'.inodes p ≡ get T.inodes p
  unfolding val
  whole_same {p} {w} agree = inode_same (get T'.inodes p) (get T.inodes p) (λ f. field_same f agree)

  -- a body stays where its file's areas agree
  pub body_same : (f : FileId) (p : Place) → body T f ≡ Some p → AgreeOn (file_areas f p) T T' → body T' f ≡ Some p
  unfolding body
  body_same (User u i) p is agree =
      let at : (u, i) ≡ p = home_body_is (val T (At (u, i) KindOf)) (User u i) (u, i) p is in
      let e : val T' (At (u, i) KindOf) ≡ val T (At (u, i) KindOf) = subst (λ r. val T' (At r KindOf) ≡ val T (At r KindOf)) (sym at) (kind_same agree) in
      ap (λ v. home_body v (User u i) (u, i)) e ∙ is
  body_same (Group g k) p is agree = ap pointer_body (pointer_same (later agree)) ∙ is

  pub is_pointer_free_same : (f : FileId) (v : Option Place) → AgreeOn (edits_areas (pointer_edits f v)) T T' → is_pointer_free T' f ≡ is_pointer_free T f
  is_pointer_free_same (User u i) v agree = refl
  is_pointer_free_same (Group g k) v agree = ap is_nothing (pointer_same agree)

-- ---- what a check says of an inode

pub dir_is : (v : Value) → is_dir_kind v ≡ true → (h : FileId) × (v ≡ AKind Dir h)
dir_is (AKind Dir h) e = (h, refl)
dir_is (AKind File h) e = absurd cc
dir_is Nothing e = absurd cc
dir_is (ANumber n) e = absurd cc
dir_is (ABlock l) e = absurd cc
dir_is (AFile f) e = absurd cc
dir_is (APlace r) e = absurd cc

pub file_is : (v : Value) → is_file_kind v ≡ true → (h : FileId) × (v ≡ AKind File h)
file_is (AKind Dir h) e = absurd cc
file_is (AKind File h) e = (h, refl)
file_is Nothing e = absurd cc
file_is (ANumber n) e = absurd cc
file_is (ABlock l) e = absurd cc
file_is (AFile f) e = absurd cc
file_is (APlace r) e = absurd cc

pub nothing_is : (v : Value) → is_nothing v ≡ true → v ≡ Nothing
nothing_is Nothing e = refl
nothing_is (AKind k h) e = absurd cc
nothing_is (ANumber n) e = absurd cc
nothing_is (ABlock l) e = absurd cc
nothing_is (AFile f) e = absurd cc
nothing_is (APlace r) e = absurd cc

pub IsA_dir : (T : Tree) (p : Place) → is_dir_kind (val T (At p KindOf)) ≡ true → IsA Dir (get T.inodes p)
unfolding val
IsA_dir T p e = dir_is (val T (At p KindOf)) e

pub IsA_file : (T : Tree) (p : Place) → is_file_kind (val T (At p KindOf)) ≡ true → IsA File (get T.inodes p)
unfolding val
IsA_file T p e = file_is (val T (At p KindOf)) e

pub no_inode : (T : Tree) (p : Place) → val T (At p KindOf) ≡ Nothing → field_value (get T.inodes p) KindOf ≡ Nothing
unfolding val
no_inode T p e = e

and_false : (b : Bool) → ((b && false) || false) ≡ false
and_false true = refl
and_false false = refl

-- a change of a name leaves each inode's kind
pub kind_after_name : (T : Tree) (d : Place) (x : Name) (v : Option FileId) (q : Place) → IsA Dir (get T.inodes d) → val (edit T (Inodes d (Named x v))) (At q KindOf) ≡ val T (At q KindOf)
kind_after_name T d x v q is = edit_leaves T (Inodes d (Named x v)) (At q KindOf) (is, tt) (and_false (place_eq q d))

pub can_pointer_some : (T : Tree) (f : FileId) (p : Place) → ((g : Place) → f ≡ Group g.0 g.1 → IsBodyOf T g p) → CanEdits T (pointer_edits f (Some p))
can_pointer_some T (User u i) p home = tt
can_pointer_some T (Group g k) p home = (home (g, k) refl, tt)

-- the plan's inodes are made where nothing stood
abbrev pub PlanMakesNew : Tree → Plan → Type 0
PlanMakesNew T p = MakesNew T p.edits

-- what is shown of an operation, by its rule for the action that has it, and its row
pub record Admissible (rule : Membership → Tree → Action → Rule) (Row : Type 0) : Type 0 where
  -- it is accepted with the same plan where the cells agree that it reads
  pub local : (ro : Membership) (x : Action) (T T' : Tree) (p : Plan) → Sound T → Gives (rule ro T x) p → AgreeOn (plan_reads p) T T' → Gives (rule ro T' x) p
  -- its edits can be made
  pub can : (ro : Membership) (x : Action) (T : Tree) (p : Plan) → Sound T → Gives (rule ro T x) p → CanEdits T p.edits
  -- its inodes are made where nothing stood
  pub new : (ro : Membership) (x : Action) (T : Tree) (p : Plan) → Gives (rule ro T x) p → PlanMakesNew T p
  -- its row of the table of cells
  pub row : Row

pub pointers_make_none : (T : Tree) (f : FileId) (v : Option Place) → MakesNew T (pointer_edits f v)
pointers_make_none T (User u i) v = tt
pointers_make_none T (Group g k) v = tt

-- ---- where no group file stands

pub nothing_free : (T : Tree) (p : Place) → Sound T → val T (At p KindOf) ≡ Nothing → IsFree T p
nothing_free T p sound nothing g at = let (k, h) = sound.homes g p at in no_kind k (sym h ∙ nothing)
  where
    no_kind : (k : Kind) → AKind k (Group g.0 g.1) ≡ Nothing → ⊥
    no_kind k e = absurd cc

pub free_after_name : (T : Tree) (d : Place) (x : Name) (v : Option FileId) (p : Place) → IsFree T p → IsFree (edit T (Inodes d (Named x v))) p
free_after_name T d x v p free g at = free g (sym (pointer_after T d (Named x v) g) ∙ at)

some_none : {A P : Type 0} {x : A} → Some x ≡ None → P
some_none e = cc

pub pointer_of_body : (T : Tree) (g p : Place) → body T (Group g.0 g.1) ≡ Some p → val T (Pointer g) ≡ APlace p
unfolding body
pointer_of_body T g p is = go (val T (Pointer g)) is
  where
    go : (v : Value) → pointer_body v ≡ Some p → v ≡ APlace p
    go (APlace q) e = let same : q ≡ p = cc in ap APlace same
    go Nothing e = absurd cc
    go (AKind k h) e = absurd cc
    go (ANumber n) e = absurd cc
    go (ABlock l) e = absurd cc
    go (AFile f) e = absurd cc

-- a user's file has a home of its own
pub user_home : (T : Tree) (q p g : Place) (k : Kind) → body T (User q.0 q.1) ≡ Some p → val T (At p KindOf) ≡ AKind k (Group g.0 g.1) → ⊥
unfolding body
user_home T q p g k is home =
    let at : q ≡ p = home_body_is (val T (At q KindOf)) (User q.0 q.1) q p is in
    some_none (sym is ∙ ap (λ v. home_body v (User q.0 q.1) q) (ap (λ r. val T (At r KindOf)) at ∙ home))

group_same : (k j : Kind) (g h : Place) → AKind k (Group g.0 g.1) ≡ AKind j (Group h.0 h.1) → g ≡ h
group_same k j g h e =
    let a : g.0 ≡ h.0 = cc in
    let b : g.1 ≡ h.1 = cc in
    λ i. (a i, b i)

-- no two group files stand at one place
pub one_group : (T : Tree) (g k p : Place) → Sound T → val T (Pointer g) ≡ APlace p → val T (Pointer k) ≡ APlace p → g ≡ k
one_group T g k p sound a b = let (x, e) = sound.homes g p a in let (y, d) = sound.homes k p b in group_same x y g k (sym e ∙ d)

pub links_is : (v : Value) → nat_le 2 (value_number v) ≡ true → v ≡ ANumber (value_number v)
links_is (ANumber n) e = refl
links_is Nothing e = absurd cc
links_is (AKind k h) e = absurd cc
links_is (ABlock l) e = absurd cc
links_is (AFile f) e = absurd cc
links_is (APlace r) e = absurd cc

pub few_links : (T : Tree) (p : Place) → Sound T → nat_le 2 (value_number (val T (At p LinksOf))) ≡ true → value_number (val T (At p LinksOf)) ≤ 255
unfolding val
few_links T p sound many = ((sound.linked p).few (value_number (val T (At p LinksOf))) (links_is (val T (At p LinksOf)) many)).1

-- ---- an inode's links, size and names

many_links_at : (o : Option Inode) → HasOneLink o → nat_le 2 (value_number (field_value o LinksOf)) ≡ true → is_file_kind (field_value o KindOf) ≡ true
many_links_at None one many = absurd cc
many_links_at (Some i) one many = go i.content one
  where
    two : (l : ℕ) → ANumber l ≡ ANumber 1 → nat_le 2 l ≡ true → ⊥
    two l e m = let same : l ≡ 1 = cc in absurd (subst (λ l. nat_le 2 l ≡ true → ⊥) (sym same) (λ d. absurd cc) m)

    go : (c : Content) → (((h : FileId) × (AKind (kind_of c) i.home ≡ AKind Dir h)) → ANumber i.links ≡ ANumber 1) → is_file_kind (AKind (kind_of c) i.home) ≡ true
    go (Bytes bs) one = refl
    go (Names m) one = absurd (two i.links (one (i.home, refl)) many)

-- a directory has one link, so what has more is a file
pub many_links : (T : Tree) (p : Place) → HasOneLink (get T.inodes p) → nat_le 2 (value_number (val T (At p LinksOf))) ≡ true → is_file_kind (val T (At p KindOf)) ≡ true
unfolding val
many_links T p one many = many_links_at (get T.inodes p) one many

bare_file_at : (o : Option Inode) → is_file_kind (field_value o KindOf) ≡ true → has_no_names o ≡ true
bare_file_at None e = refl
bare_file_at (Some i) e = go i.content e
  where
    go : (c : Content) → is_file_kind (AKind (kind_of c) i.home) ≡ true → has_no_names (Some (record i { content = c })) ≡ true
    go (Bytes bs) e = refl
    go (Names m) e = absurd cc

pub bare_file : (T : Tree) (p : Place) → is_file_kind (val T (At p KindOf)) ≡ true → is_bare_at T p ≡ true
unfolding val is_bare_at
bare_file T p e = bare_file_at (get T.inodes p) e

pub bare_same : (T T' : Tree) (p : Place) → get T'.inodes p ≡ get T.inodes p → is_bare_at T' p ≡ is_bare_at T p
unfolding is_bare_at
bare_same T T' p e = ap has_no_names e

size_is_at : (o : Option Inode) → is_file_kind (field_value o KindOf) ≡ true → field_value o SizeOf ≡ ANumber (value_number (field_value o SizeOf))
size_is_at None e = absurd cc
size_is_at (Some i) e = go i.content
  where
    go : (c : Content) → content_value c i.links i.home SizeOf ≡ ANumber (value_number (content_value c i.links i.home SizeOf))
    go (Bytes bs) = refl
    go (Names m) = refl

pub size_is : (T : Tree) (p : Place) → is_file_kind (val T (At p KindOf)) ≡ true → field_value (get T.inodes p) SizeOf ≡ ANumber (value_number (val T (At p SizeOf)))
unfolding val
size_is T p e = size_is_at (get T.inodes p) e

-- ---- rows of the table of cells

pub pointer_written : (f : FileId) (v : Option Place) → edits_areas (pointer_edits f v) ≡ pointer_areas f
pointer_written (User u i) v = refl
pointer_written (Group g k) v = refl
