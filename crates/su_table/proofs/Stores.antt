-- What std's maps hold and how they change, as the tree sees it.
use Rattle.std.proofs.Common.{◌≡◌, ◌∙◌, sym, refl, ap, ℕ, nat_eq, arith, not, ◌&&◌, cond, List, Option, Some, None, Result, Ok, Err, IfOk, IfErr, OnErr, ◌⊎◌, inr}
use Rattle.std.specs.declared.cmp.Ordering.{Ordering}
use Rattle.std.specs.declared.cmp.Ordering.TheVariants.{Less, Equal, Greater}
use Rattle.std.specs.Ordering.{is_eq, nat_cmp, ordering_then}
use Rattle.std.specs.Map.{lookup}
use Rattle.std.specs.BTreeMap.{is_at}
use Rattle.std.specs.Option.{is_some, option_eq, ok_or, option_map}
use Rattle.std.specs.FinMap.{FinMap, get, empty, from_entries}
use Rattle.su_bytes.specs.declared.file_ids.FileId.{FileId}
use Rattle.su_bytes.specs.declared.file_ids.FileId.TheVariants.{User, Group}
use Rattle.su_bytes.specs.declared.file_ids.Kind.TheVariants.{Dir}
use Rattle.su_bytes.specs.declared.refusals.Refusal.TheVariants.{NoFile, WrongKind}
use Rattle.su_bytes.specs.contracts.file_ids.FileIdPartialEq.TheImpl as block
use Rattle.su_bytes.specs.Place.{Place, place_cmp, place_eq, file_eq}
use Rattle.su_node.specs.Inode.{Inode, new_inode}
use Rattle.su_table.specs.Tree.{Tree, genesis}
use Rattle.su_node.specs.Field.{Field, Field.KindOf, field_value, file_value}
use Rattle.su_table.specs.Cell.{Cell.At, Cell.Pointer, place_value, val}
use Rattle.su_table.specs.Query.{is_nothing, is_link_to, pointer_body, body, standing_at, standing, part}
use Rattle.su_node.specs.InodeChange.{InodeChange, InodeChange.Copied, inode_after, set_key}
use Rattle.su_table.specs.Edit.{Edit.Inodes, Edit.Pointers, edit}
use Rattle.su_node.proofs.Public.{from_entries-updates, get-from_entries_lookup, set_key-get}
use Rattle.su_table.proofs.Places.{place_cmp_total, place_cmp_exact}

-- what std finds among the pointers
abbrev pub at_place : {X : Type 0} → List (Place × X) → Place → Option X
at_place es p = lookup (is_at (place_cmp p)) es

-- ---- reading

pub get-inodes : (es : List (Place × Inode)) (m : FinMap place_cmp Place) (T : Tree) → record { inodes = from_entries es; pointers = m } ≡ T → (p : Place) (o : Option Inode) → o ≡ at_place es p → get T.inodes p ≡ o
get-inodes es m T is p o found = ap (λ (t : Tree). get t.inodes p) (sym is) ∙ get-from_entries_lookup place_cmp_total es p ∙ sym found

pub get-pairs_of : (n : FinMap place_cmp Inode) (es : List (Place × Place)) (T : Tree) → record { inodes = n; pointers = from_entries es } ≡ T → (g : Place) (o : Option Place) → o ≡ at_place es g → get T.pointers g ≡ o
get-pairs_of n es T is g o found = ap (λ (t : Tree). get t.pointers g) (sym is) ∙ get-from_entries_lookup place_cmp_total es g ∙ sym found

pub val-At : (es : List (Place × Inode)) (m : FinMap place_cmp Place) (T : Tree) → record { inodes = from_entries es; pointers = m } ≡ T → (p : Place) (f : Field) (o : Option Inode) → o ≡ at_place es p → val T (At p f) ≡ field_value o f
unfolding val
val-At es m T is p f o found = ap (λ i. field_value i f) (get-inodes es m T is p o found)

pub val-Pointer : (n : FinMap place_cmp Inode) (es : List (Place × Place)) (T : Tree) → record { inodes = n; pointers = from_entries es } ≡ T → (g : Place) (o : Option Place) → o ≡ at_place es g → val T (Pointer g) ≡ place_value o
unfolding val
val-Pointer n es T is g o found = ap place_value (get-pairs_of n es T is g o found)

pub is_nothing-field_value : (o : Option Inode) → is_nothing (field_value o KindOf) ≡ not (is_some o)
is_nothing-field_value None = refl
is_nothing-field_value (Some i) = refl

pub is_nothing-file_value : (o : Option FileId) → is_nothing (file_value o) ≡ not (is_some o)
is_nothing-file_value None = refl
is_nothing-file_value (Some f) = refl

pub is_nothing-place_value : (o : Option Place) → is_nothing (place_value o) ≡ not (is_some o)
is_nothing-place_value None = refl
is_nothing-place_value (Some p) = refl

pub pointer_body-place_value : (o : Option Place) → pointer_body (place_value o) ≡ o
pointer_body-place_value None = refl
pointer_body-place_value (Some p) = refl

-- ---- telling file ids apart

nat_eq-cmp : (x y : ℕ) → is_eq (nat_cmp x y) ≡ nat_eq x y
nat_eq-cmp x y = grind arith

is_eq-then : (r s : Ordering) → is_eq (ordering_then r s) ≡ (is_eq r && is_eq s)
is_eq-then Less s = refl
is_eq-then Equal s = refl
is_eq-then Greater s = refl

place_eq-both : (u i v j : ℕ) → place_eq (u, i) (v, j) ≡ (nat_eq u v && nat_eq i j)
unfolding place_eq
place_eq-both u i v j = is_eq-then (nat_cmp u v) (nat_cmp i j) ∙ ap (λ b. b && is_eq (nat_cmp i j)) (nat_eq-cmp u v) ∙ ap (λ b. nat_eq u v && b) (nat_eq-cmp i j)

-- the derived `==`
pub file_eq-derived : (f g : FileId) → block.ghosts.eq f g ≡ file_eq f g
file_eq-derived (User u i) (User v j) = sym (place_eq-both u i v j)
file_eq-derived (User u i) (Group h l) = refl
file_eq-derived (Group g k) (User v j) = refl
file_eq-derived (Group g k) (Group h l) = sym (place_eq-both g k h l)

pub is_link_to-derived : (o : Option FileId) (f : FileId) → option_eq block.ghosts.eq o (Some f) ≡ is_link_to (file_value o) f
is_link_to-derived None f = refl
is_link_to-derived (Some g) f = file_eq-derived g f

-- ---- writing

pub edit-Inodes : (es fs : List (Place × Inode)) (m : FinMap place_cmp Place) (T : Tree) → record { inodes = from_entries es; pointers = m } ≡ T
    → (p : Place) (ch : InodeChange) (v : Option Inode) → ((q : Place) → at_place fs q ≡ cond (is_at (place_cmp p) q) v (at_place es q)) → inode_after ch (at_place es p) ≡ v
    → record { inodes = from_entries fs; pointers = m } ≡ edit T (Inodes p ch)
unfolding edit
edit-Inodes es fs m T is p ch v h e =
    let a = from_entries-updates place_cmp_total place_cmp_exact es fs p v h
    ∙ ap (set_key (from_entries es) p) (sym e ∙ ap (inode_after ch) (sym (get-from_entries_lookup place_cmp_total es p))) in
    ap (λ (n : FinMap place_cmp Inode). record { inodes = n; pointers = m }) a ∙ ap (λ (t : Tree). edit t (Inodes p ch)) is

pub edit-Inodes_absent : (es : List (Place × Inode)) (m : FinMap place_cmp Place) (T : Tree) → record { inodes = from_entries es; pointers = m } ≡ T
    → (p : Place) (ch : InodeChange) → at_place es p ≡ None → inode_after ch None ≡ None → record { inodes = from_entries es; pointers = m } ≡ edit T (Inodes p ch)
unfolding edit
edit-Inodes_absent es m T is p ch none e =
    let a = get-inodes es m T is p None (sym none) in
    is ∙ sym (ap (λ (n : FinMap place_cmp Inode). record T { inodes = n }) (set_key-get place_cmp_total place_cmp_exact T.inodes p _ (a ∙ sym e ∙ ap (inode_after ch) (sym a))))

pub edit-Pointers : (n : FinMap place_cmp Inode) (es fs : List (Place × Place)) (T : Tree) → record { inodes = n; pointers = from_entries es } ≡ T
    → (g : Place) (v : Option Place) → ((q : Place) → at_place fs q ≡ cond (is_at (place_cmp g) q) v (at_place es q))
    → record { inodes = n; pointers = from_entries fs } ≡ edit T (Pointers g v)
unfolding edit
edit-Pointers n es fs T is g v h =
    ap (λ (e : FinMap place_cmp Place). record { inodes = n; pointers = e }) (from_entries-updates place_cmp_total place_cmp_exact es fs g v h) ∙ ap (λ (t : Tree). edit t (Pointers g v)) is

-- ---- the tree before the first operation

pub genesis-made : (T U V : Tree) (root : Inode) → T ≡ record { inodes = empty; pointers = empty } → U ≡ edit T (Inodes (0, 1) (Copied root))
    → V ≡ edit U (Pointers (0, 1) (Some (0, 1))) → root ≡ new_inode (Group 0 1) Dir → V ≡ genesis
unfolding genesis edit
genesis-made T U V root bare placed pointed is = pointed ∙ ap (λ (t : Tree). edit t (Pointers (0, 1) (Some (0, 1)))) (placed ∙ (λ i. edit (bare i) (Inodes (0, 1) (Copied (is i)))))

-- ---- what stands for a file

module _ {X : Type 0} (of : Inode → Option X) (T : Tree) (f : FileId) where
  pub part-no_body : None ≡ body T f → part of f (standing T f) ≡ Err (NoFile f)
  unfolding standing
  part-no_body none = ap (λ o. part of f (standing_at T f o)) (sym none)

  pub part-nothing : (p : Place) → Some p ≡ body T f → None ≡ get T.inodes p → part of f (standing T f) ≡ Err (WrongKind f)
  unfolding standing
  part-nothing p at none = ap (λ o. part of f (standing_at T f o)) (sym at) ∙ ap (λ o. part of f (ok_or o (WrongKind f))) (sym none)

  pub part-of : (p : Place) (i : Inode) (x : Option X) → Some p ≡ body T f → Some i ≡ get T.inodes p → x ≡ of i → part of f (standing T f) ≡ ok_or x (WrongKind f)
  unfolding standing
  part-of p i x at found is = ap (λ o. part of f (standing_at T f o)) (sym at) ∙ ap (λ o. part of f (ok_or o (WrongKind f))) (sym found) ∙ ap (λ o. ok_or o (WrongKind f)) (sym is)

-- ---- what is there, or a refusal

pub IfOk-ok_or : {X Y E : Type 0} (g : X → Y) (o : Option X) (e : E) (l : Result Y E) → l ≡ ok_or (option_map g o) e → IfOk (ok_or o e) (λ x. l ≡ Ok (g x))
IfOk-ok_or g None e l is = tt
IfOk-ok_or g (Some x) e l is = is

pub IfErr-ok_or : {X Y E : Type 0} (g : X → Y) (n : E) (o : Option X) (e : E) (l : Result Y E) → l ≡ ok_or (option_map g o) e → IfErr (ok_or o e) (λ y. (y ≡ n) ⊎ (l ≡ Err y))
IfErr-ok_or g n None e l is = inr is
IfErr-ok_or g n (Some x) e l is = tt

pub error-ok_or : {X E : Type 0} (x : E) (o : Option X) (e : E) → Err x ≡ ok_or o e → o ≡ None → x ≡ e
error-ok_or x None e is none = cc
error-ok_or x (Some y) e is none = absurd cc

pub OnErr-always : {X Y P : Type 0} (r : Result X Y) → P → OnErr r P
OnErr-always (Ok x) p = tt
OnErr-always (Err y) p = p
