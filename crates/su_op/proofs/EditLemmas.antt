-- Edits of a tree, cell by cell.
use Rattle.std.proofs.Common.{ℕ, ◌+◌, length, ◌≡◌, ℕ, ◌+◌, length, Bool, true, false, cond, ◌&&◌, ◌||◌, List, [], ◌∷◌, ◌++◌, map, Option, Some, None, refl, sym, ap, ◌∙◌, subst}
use Rattle.std.proofs.lemmas.List.Folds.{list_any-append}
use Rattle.std.specs.Bool.{if◌then◌else◌}
use Rattle.std.specs.List.{list_any}
use Rattle.std.specs.FinMap.{get}
use Rattle.su_bytes.specs.declared.file_ids.FileId.TheVariants.{Group}
use Rattle.su_bytes.specs.Place.{Place, place_eq}
use Rattle.su_table.specs.Tree.{Tree}
use Rattle.su_node.specs.Field.{Field, Field.KindOf, Value.Nothing, Value.AKind, Value.APlace, field_value}
use Rattle.su_table.specs.Cell.{Cell, Cell.At, Cell.Pointer, place_value, val}
use Rattle.su_node.specs.InodeChange.{InodeChange, InodeChange.Made, InodeChange.Named, InodeChange.Linked, InodeChange.Written, InodeChange.Resized, InodeChange.Copied, InodeChange.Gone, inode_after}
use Rattle.su_table.specs.Edit.{Edit, Edit.Inodes, Edit.Pointers, edit, edits}
use Rattle.su_op.specs.declared.areas.Part.{Part}
use Rattle.su_op.specs.declared.areas.Area.{Area}
use Rattle.su_op.specs.declared.areas.Area.TheVariants.{Inode as InodeArea}
use Rattle.su_op.specs.Area.{in_part, in_area, has}
use Rattle.su_op.specs.Footprint.{overwritten_parts, grown_parts, other_size_parts, parts, edit_areas, edits_areas}
use Rattle.su_op.specs.Soundness.{WellLinked, IsBodyOf, Sound}
use Rattle.su_op.proofs.KeyLemmas.{get-set_place, same_places, place_eq-same, place_eq-itself}
use Rattle.su_op.proofs.InodeChangeLemmas.{Can, leaves, alike, stays_linked, inode_same}
use Rattle.su_table.specs.Query.{is_free_at}
use Rattle.std.proofs.lemmas.Bool.{or_parts}

-- no group file stands at p
abbrev pub IsFree : Tree → Place → Type 0
IsFree T p = (g : Place) → val T (Pointer g) ≡ APlace p → ⊥

-- a change of a kind or home is made only of what no pointer points at
abbrev pub Moves : InodeChange → Tree → Place → Type 0
Moves (Made h k) T p = IsFree T p
Moves (Copied i) T p = IsFree T p
Moves Gone T p = IsFree T p
Moves _ T p = Unit {0}

-- where edits can be made
abbrev pub CanEdit : Tree → Edit → Type 0
CanEdit T (Inodes p ch) = Can ch (get T.inodes p) × Moves ch T p
CanEdit T (Pointers g None) = Unit {0}
CanEdit T (Pointers g (Some p)) = IsBodyOf T g p

abbrev pub CanEdits : Tree → List Edit → Type 0
CanEdits T [] = Unit {0}
CanEdits T (e ∷ es) = CanEdit T e × CanEdits (edit T e) es

-- an inode is made only where nothing stood before the first edit
abbrev pub MakesNew : Tree → List Edit → Type 0
MakesNew T [] = Unit {0}
MakesNew T (Inodes p (Made h k) ∷ es) = (is_free_at T p ≡ true) × MakesNew T es
MakesNew T (e ∷ es) = MakesNew T es

pub has_parts : (p q : Place) (f : Field) (ps : List Part) → list_any (λ a. in_area a (At q f)) (map (InodeArea p) ps) ≡ (place_eq q p && list_any (λ a. in_part a f) ps)
has_parts p q f [] = go (place_eq q p)
  where
    go : (b : Bool) → false ≡ (b && false)
    go true = refl
    go false = refl
has_parts p q f (a ∷ ps) = ap (λ b. place_eq q p && in_part a f || b) (has_parts p q f ps) ∙ go (place_eq q p)
  where
    go : (b : Bool) → ((b && in_part a f) || (b && list_any (λ a. in_part a f) ps)) ≡ (b && (in_part a f || list_any (λ a. in_part a f) ps))
    go true = refl
    go false = refl

-- an edit leaves what it doesn't write
pub edit_leaves : (T : Tree) (e : Edit) (c : Cell) → CanEdit T e → has (edit_areas e) c ≡ false → val (edit T e) c ≡ val T c
unfolding val edit
edit_leaves T (Inodes p ch) (Pointer g) can out = refl
edit_leaves T (Pointers g v) (At q f) can out = refl
edit_leaves T (Pointers g v) (Pointer k) can out = ap place_value (get-set_place T.pointers g v k) ∙ go (place_eq k g) out
  where
    go : (b : Bool) → (b || false) ≡ false → place_value (cond b v (get T.pointers k)) ≡ place_value (get T.pointers k)
    go true out = absurd cc
    go false out = refl
edit_leaves T (Inodes p ch) (At q f) can out = ap (λ o. field_value o f) (get-set_place T.inodes p (inode_after ch (get T.inodes p)) q) ∙ go (place_eq q p) refl (sym (has_parts p q f (parts ch)) ∙ out)
  where
    go : (b : Bool) → place_eq q p ≡ b → (b && list_any (λ a. in_part a f) (parts ch)) ≡ false → field_value (cond b (inode_after ch (get T.inodes p)) (get T.inodes q)) f ≡ field_value (get T.inodes q) f
    go true is out = leaves ch (get T.inodes p) f can.0 out ∙ ap (λ r. field_value (get T.inodes r) f) (sym (place_eq-same q p is))
    go false is out = refl

-- and where it finds the same it leaves the same
pub edit_alike : (T T' : Tree) (e : Edit) (c : Cell) → CanEdit T e → CanEdit T' e → val T c ≡ val T' c → val (edit T e) c ≡ val (edit T' e) c
unfolding val edit
edit_alike T T' (Inodes p ch) (Pointer g) a b same = same
edit_alike T T' (Pointers g v) (At q f) a b same = same
edit_alike T T' (Pointers g v) (Pointer k) a b same = ap place_value (get-set_place T.pointers g v k) ∙ go (place_eq k g) ∙ sym (ap place_value (get-set_place T'.pointers g v k))
  where
    go : (b : Bool) → place_value (cond b v (get T.pointers k)) ≡ place_value (cond b v (get T'.pointers k))
    go true = refl
    go false = same
edit_alike T T' (Inodes p ch) (At q f) a b same =
    ap (λ o. field_value o f) (get-set_place T.inodes p (inode_after ch (get T.inodes p)) q) ∙ go (place_eq q p) refl
    ∙ sym (ap (λ o. field_value o f) (get-set_place T'.inodes p (inode_after ch (get T'.inodes p)) q))
  where
    go : (b : Bool) → place_eq q p ≡ b → field_value (cond b (inode_after ch (get T.inodes p)) (get T.inodes q)) f ≡ field_value (cond b (inode_after ch (get T'.inodes p)) (get T'.inodes q)) f
    go true is = alike ch (get T.inodes p) (get T'.inodes p) f a.0 b.0 (subst (λ r. field_value (get T.inodes r) f ≡ field_value (get T'.inodes r) f) (place_eq-same q p is) same)
    go false is = same

edit_linked : (T : Tree) (e : Edit) → CanEdit T e → ((p : Place) → WellLinked (get T.inodes p)) → (q : Place) → WellLinked (get (edit T e).inodes q)
unfolding edit
edit_linked T (Pointers g v) can fine q = fine q
edit_linked T (Inodes p ch) can fine q = subst WellLinked (sym (get-set_place T.inodes p (inode_after ch (get T.inodes p)) q)) (go (place_eq q p))
  where
    go : (b : Bool) → WellLinked (cond b (inode_after ch (get T.inodes p)) (get T.inodes q))
    go true = stays_linked ch (get T.inodes p) can.0 (fine p)
    go false = fine q

-- a pointer after a change of an inode, and an inode after a change of a pointer
pub pointer_after : (T : Tree) (p : Place) (ch : InodeChange) (g : Place) → val (edit T (Inodes p ch)) (Pointer g) ≡ val T (Pointer g)
unfolding val edit
pointer_after T p ch g = refl

pub kind_after : (T : Tree) (k : Place) (v : Option Place) (p : Place) → val (edit T (Pointers k v)) (At p KindOf) ≡ val T (At p KindOf)
unfolding val edit
kind_after T k v p = refl

pub pointer_is : (T : Tree) (k : Place) (v : Option Place) (g : Place) → val (edit T (Pointers k v)) (Pointer g) ≡ cond (place_eq g k) (place_value v) (val T (Pointer g))
unfolding val edit
pointer_is T k v g = ap place_value (get-set_place T.pointers k v g) ∙ go (place_eq g k)
  where
    go : (b : Bool) → place_value (cond b v (get T.pointers g)) ≡ cond b (place_value v) (place_value (get T.pointers g))
    go true = refl
    go false = refl

-- what a change leaves at its place
pub field_after : (T : Tree) (p : Place) (ch : InodeChange) (f : Field) → val (edit T (Inodes p ch)) (At p f) ≡ field_value (inode_after ch (get T.inodes p)) f
unfolding val edit
field_after T p ch f = ap (λ o. field_value o f) (get-set_place T.inodes p (inode_after ch (get T.inodes p)) p ∙ ap (λ b. cond b (inode_after ch (get T.inodes p)) (get T.inodes p)) (place_eq-itself p))

in_kind : (p q : Place) (ch : InodeChange) → list_any (λ a. in_part a KindOf) (parts ch) ≡ false → has (edit_areas (Inodes p ch)) (At q KindOf) ≡ false
in_kind p q ch out = has_parts p q KindOf (parts ch) ∙ ap (λ b. place_eq q p && b) out ∙ go (place_eq q p)
  where
    go : (b : Bool) → (b && false) ≡ false
    go true = refl
    go false = refl

kept_home : (T : Tree) (p : Place) (ch : InodeChange) → CanEdit T (Inodes p ch) → list_any (λ a. in_part a KindOf) (parts ch) ≡ false → (g q : Place) → IsBodyOf T g q → IsBodyOf (edit T (Inodes p ch)) g q
kept_home T p ch can out g q (k, e) = (k, edit_leaves T (Inodes p ch) (At q KindOf) can (in_kind p q ch out) ∙ e)

-- what is changed at a place where no group file stands leaves the others
moved_home : (T : Tree) (p : Place) (ch : InodeChange) → CanEdit T (Inodes p ch) → IsFree T p → (g q : Place) → val T (Pointer g) ≡ APlace q → IsBodyOf T g q → IsBodyOf (edit T (Inodes p ch)) g q
moved_home T p ch can free g q at (k, e) = go (place_eq q p) refl
  where
    go : (b : Bool) → place_eq q p ≡ b → IsBodyOf (edit T (Inodes p ch)) g q
    go true is = absurd (free g (at ∙ ap APlace (place_eq-same q p is)))
    go false is = (k, edit_leaves T (Inodes p ch) (At q KindOf) can (has_parts p q KindOf (parts ch) ∙ ap (λ b. b && list_any (λ a. in_part a KindOf) (parts ch)) is) ∙ e)

pub written_kind : (b : Bool) (s off end : ℕ) → list_any (λ a. in_part a KindOf) (if b then overwritten_parts off end else grown_parts s off end) ≡ false
written_kind true s off end = refl
written_kind false s off end = refl

pub resized_kind : (b : Bool) (s t : ℕ) → list_any (λ a. in_part a KindOf) (if b then [] else other_size_parts s t) ≡ false
resized_kind true s t = refl
resized_kind false s t = refl

inodes_homes : (T : Tree) (p : Place) (ch : InodeChange) → CanEdit T (Inodes p ch) → (g q : Place) → val T (Pointer g) ≡ APlace q → IsBodyOf T g q → IsBodyOf (edit T (Inodes p ch)) g q
inodes_homes T p (Made h k) can g q at home = moved_home T p (Made h k) can can.1 g q at home
inodes_homes T p (Copied i) can g q at home = moved_home T p (Copied i) can can.1 g q at home
inodes_homes T p Gone can g q at home = moved_home T p Gone can can.1 g q at home
inodes_homes T p (Named x v) can g q at home = kept_home T p (Named x v) can refl g q home
inodes_homes T p (Linked n) can g q at home = kept_home T p (Linked n) can refl g q home
inodes_homes T p (Written s off xs) can g q at home = kept_home T p (Written s off xs) can (written_kind _ s off (off + length xs)) g q home
inodes_homes T p (Resized s t) can g q at home = kept_home T p (Resized s t) can (resized_kind _ s t) g q home

pub place_same_value : (p q : Place) → APlace p ≡ APlace q → p ≡ q
place_same_value p q e = cc

edit_homes : (T : Tree) (e : Edit) → CanEdit T e → ((g q : Place) → val T (Pointer g) ≡ APlace q → IsBodyOf T g q) → (g q : Place) → val (edit T e) (Pointer g) ≡ APlace q → IsBodyOf (edit T e) g q
edit_homes T (Inodes p ch) can stands g q at =
    let was : val T (Pointer g) ≡ APlace q = sym (pointer_after T p ch g) ∙ at in
    inodes_homes T p ch can g q was (stands g q was)
edit_homes T (Pointers k None) can stands g q at = go (place_eq g k) (sym (pointer_is T k None g) ∙ at)
  where
    go : (b : Bool) → cond b Nothing (val T (Pointer g)) ≡ APlace q → IsBodyOf (edit T (Pointers k None)) g q
    go true e = absurd cc
    go false e = let (j, h) = stands g q e in (j, kind_after T k None q ∙ h)
edit_homes T (Pointers k (Some p)) can stands g q at = go (place_eq g k) refl (sym (pointer_is T k (Some p) g) ∙ at)
  where
    go : (b : Bool) → place_eq g k ≡ b → cond b (APlace p) (val T (Pointer g)) ≡ APlace q → IsBodyOf (edit T (Pointers k (Some p))) g q
    go true is e =
        let same : p ≡ q = place_same_value p q e in
        let (j, h) = can in
        (j, kind_after T k (Some p) q ∙ ap (λ r. val T (At r KindOf)) (sym same) ∙ h ∙ ap (λ r. AKind j (Group r.0 r.1)) (sym (place_eq-same g k is)))
    go false is e = let (j, h) = stands g q e in (j, kind_after T k (Some p) q ∙ h)

pub edit_sound : (T : Tree) (e : Edit) → CanEdit T e → Sound T → Sound (edit T e)
edit_sound T e can sound = record { linked = edit_linked T e can sound.linked; homes = edit_homes T e can sound.homes }

-- ---- a list of edits

pub has_none : (u w : List Area) (c : Cell) → has (u ++ w) c ≡ false → (has u c ≡ false) × (has w c ≡ false)
has_none u w c e = or_parts (has u c) (has w c) (sym (list_any-append (λ a. in_area a c) u w) ∙ e)

pub edits_leave : (T : Tree) (es : List Edit) (c : Cell) → CanEdits T es → has (edits_areas es) c ≡ false → val (edits T es) c ≡ val T c
edits_leave T [] c can out = refl
edits_leave T (e ∷ es) c (can, more) out =
    let (here, later) = has_none (edit_areas e) (edits_areas es) c out in
    edits_leave (edit T e) es c more later ∙ edit_leaves T e c can here

pub edits_alike : (T T' : Tree) (es : List Edit) (c : Cell) → CanEdits T es → CanEdits T' es → val T c ≡ val T' c → val (edits T es) c ≡ val (edits T' es) c
edits_alike T T' [] c a b same = same
edits_alike T T' (e ∷ es) c (a, more) (b, others) same = edits_alike (edit T e) (edit T' e) es c more others (edit_alike T T' e c a b same)

pub edits_sound : (T : Tree) (es : List Edit) → CanEdits T es → Sound T → Sound (edits T es)
edits_sound T [] can sound = sound
edits_sound T (e ∷ es) (can, more) sound = edits_sound (edit T e) es more (edit_sound T e can sound)

-- ---- trees are equal where each cell has one value in both

pub place_value_same : (o p : Option Place) → place_value o ≡ place_value p → o ≡ p
place_value_same None None e = refl
place_value_same None (Some x) e = absurd cc
place_value_same (Some x) None e = absurd cc
place_value_same (Some x) (Some y) e = cc

pub tree_same : (T T' : Tree) → ((c : Cell) → val T c ≡ val T' c) → T ≡ T'
unfolding val
tree_same T T' each =
    let a : T.inodes ≡ T'.inodes = same_places T.inodes T'.inodes (λ p. inode_same (get T.inodes p) (get T'.inodes p) (λ f. each (At p f))) in
    let b : T.pointers ≡ T'.pointers = same_places T.pointers T'.pointers (λ g. place_value_same (get T.pointers g) (get T'.pointers g) (each (Pointer g))) in
    λ i. record { inodes = a i; pointers = b i }
