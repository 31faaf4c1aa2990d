-- Sizes and blocks that are put back into a tree.
use Rattle.std.proofs.Common.{◌≡◌, ℕ, ◌+◌, ◌*◌, ◌<◌, ◌≤◌, Bool, true, false, cond, ◌&&◌, ◌||◌, nat_le, List, [], ◌∷◌, ◌++◌, map, length, drop, Option, Some, None, option_map, refl, sym, ap, ◌∙◌, subst, arith}
use Rattle.std.proofs.lemmas.Bool.{leb-true, leb-false}
use Rattle.std.proofs.lemmas.List.{length-take, length-drop, ext_get_or}
use Rattle.std.proofs.lemmas.List.{map-append}
use Rattle.std.specs.List.{AllByRecursion}
use Rattle.std.specs.FinMap.{FinMap, get}
use Rattle.su_node.specs.Inode.{Inode, Content, Content.Bytes, Content.Names, bytes_of, within}
use Rattle.su_node.specs.Field.{Field, Field.KindOf, Field.SizeOf, Value.Nothing, Value.ANumber, field_value}
use Rattle.su_node.specs.InodeChange.{InodeChange.Resized, InodeChange.Written, inode_after, with_size, set_key}
use Rattle.su_node.proofs.Public.{set_key-get, set_key-set_key}
use Rattle.su_bytes.specs.Place.{Place, place_cmp, place_eq}
use Rattle.su_table.specs.Tree.{Tree}
use Rattle.su_table.specs.Cell.{Cell, Cell.At, val}
use Rattle.su_table.specs.Query.{value_number, size_at}
use Rattle.su_table.specs.Edit.{Edit.Inodes, edit}
use Rattle.su_table.proofs.Public.{place_cmp_total, place_cmp_exact}
use Rattle.su_op.specs.declared.areas.Part.TheVariants.{Kind as KindPart, Links as LinksPart, Size as SizePart, Name as NamePart, Blocks as BlocksPart, Whole as WholePart}
use Rattle.su_op.specs.declared.areas.Area.{Area}
use Rattle.su_op.specs.declared.areas.Area.TheVariants.{Inode as InodeArea, Pointer as PointerArea}
use Rattle.su_op.specs.Area.{in_area, has}
use Rattle.su_op.proofs.Public.{place_eq-same, place_eq-itself, get-set_place, length-with_size, get_or-with_size, resized_same, number_same}
use Rattle.su_inverse.specs.declared.resets.Reset.{Reset}
use Rattle.su_inverse.specs.declared.resets.Reset.TheVariants.{Nothing as NothingReset, Links as LinksReset}
use Rattle.su_inverse.specs.declared.contents.KeptSize.{KeptSize}
use Rattle.su_inverse.specs.declared.contents.KeptBlocks.{KeptBlocks}
use Rattle.su_inverse.specs.declared.inverses.Inverse.{Inverse}
use Rattle.su_inverse.specs.Kept.{size_area, reset_area, blocks_area, HoldsReset, HoldsSize, HoldsBlocks}
use Rattle.su_inverse.specs.Remaining.{widened, left, left_sizes, left_blocks, AgreeOutside, HoldsAll, IsRoomy}
use Rattle.su_inverse.proofs.MixedLemmas.{MixedTree, back_size, back_blocks, back_past}
use Rattle.su_inverse.proofs.AreaListLemmas.{has-append}
use Rattle.std.proofs.Math.Bool.{and-false}

no_and : (b : Bool) → (b && false) ≡ true → ⊥
no_and true e = absurd cc
no_and false e = absurd cc

-- ---- which cells are left

module _ {X : Type 0} (area : X → Area) (c : Cell) (none : (x : X) → in_area (widened (area x)) c ≡ false) where
  -- no area of a list has the cell
  none_has : (xs : List X) → has (map widened (map area xs)) c ≡ false
  none_has [] = refl
  none_has (x ∷ xs) = ap (λ b. b || has (map widened (map area xs)) c) (none x) ∙ none_has xs

size_no_kind : (p : Place) (k : KeptSize) → in_area (widened (size_area k)) (At p KindOf) ≡ false
size_no_kind p k = and-false (place_eq p k.place)

blocks_no_kind : (p : Place) (k : KeptBlocks) → in_area (widened (blocks_area k)) (At p KindOf) ≡ false
blocks_no_kind p k = and-false (place_eq p k.place)

blocks_no_size : (p : Place) (k : KeptBlocks) → in_area (widened (blocks_area k)) (At p SizeOf) ≡ false
blocks_no_size p k = and-false (place_eq p k.place)

-- what is set leaves a kind or a size only where nothing stands
module _ (T : Tree) (p : Place) where
  nothing_there : (q : Place) → place_eq p q ≡ true → val T (At q KindOf) ≡ Nothing → val T (At p KindOf) ≡ Nothing
  nothing_there q e held = ap (λ r. val T (At r KindOf)) (place_eq-same p q e) ∙ held

  fst : (b : Bool) → (b && true) ≡ true → b ≡ true
  fst true e = refl
  fst false e = absurd cc

  kind_at : (r : Reset) → HoldsReset T r → in_area (widened (reset_area r)) (At p KindOf) ≡ true → val T (At p KindOf) ≡ Nothing
  kind_at (LinksReset q n) held e = absurd (no_and (place_eq p q) e)
  kind_at (NothingReset (PointerArea g)) held e = absurd cc
  kind_at (NothingReset (InodeArea q KindPart)) held e = nothing_there q (fst (place_eq p q) e) held
  kind_at (NothingReset (InodeArea q WholePart)) held e = nothing_there q (fst (place_eq p q) e) held
  kind_at (NothingReset (InodeArea q LinksPart)) held e = absurd (no_and (place_eq p q) e)
  kind_at (NothingReset (InodeArea q SizePart)) held e = absurd (no_and (place_eq p q) e)
  kind_at (NothingReset (InodeArea q (NamePart x))) held e = absurd (no_and (place_eq p q) e)
  kind_at (NothingReset (InodeArea q (BlocksPart r))) held e = absurd (no_and (place_eq p q) e)

  size_at_left : (r : Reset) → HoldsReset T r → in_area (widened (reset_area r)) (At p SizeOf) ≡ true → val T (At p KindOf) ≡ Nothing
  size_at_left (LinksReset q n) held e = absurd (no_and (place_eq p q) e)
  size_at_left (NothingReset (PointerArea g)) held e = absurd cc
  size_at_left (NothingReset (InodeArea q KindPart)) held e = nothing_there q (fst (place_eq p q) e) held
  size_at_left (NothingReset (InodeArea q WholePart)) held e = nothing_there q (fst (place_eq p q) e) held
  size_at_left (NothingReset (InodeArea q LinksPart)) held e = absurd (no_and (place_eq p q) e)
  size_at_left (NothingReset (InodeArea q SizePart)) held e = nothing_there q (fst (place_eq p q) e) held
  size_at_left (NothingReset (InodeArea q (NamePart x))) held e = absurd (no_and (place_eq p q) e)
  size_at_left (NothingReset (InodeArea q (BlocksPart r))) held e = absurd (no_and (place_eq p q) e)

  in_resets : (f : Field) → ((r : Reset) → HoldsReset T r → in_area (widened (reset_area r)) (At p f) ≡ true → val T (At p KindOf) ≡ Nothing)
      → (rs : List Reset) → AllByRecursion (HoldsReset T) rs → has (map widened (map reset_area rs)) (At p f) ≡ true → val T (At p KindOf) ≡ Nothing
  in_resets f each [] held e = absurd cc
  in_resets f each (r ∷ rs) held e = go (in_resets f each rs held.1) (in_area (widened (reset_area r)) (At p f)) refl e
    where
      go : (has (map widened (map reset_area rs)) (At p f) ≡ true → val T (At p KindOf) ≡ Nothing) → (b : Bool) → in_area (widened (reset_area r)) (At p f) ≡ b → (b || has (map widened (map reset_area rs)) (At p f)) ≡ true → val T (At p KindOf) ≡ Nothing
      go later true is e = each r held.0 is
      go later false is e = later e

-- the three lists of what is left
three : (zs : List KeptSize) (i : Inverse) (c : Cell)
    → has (left_sizes zs i) c ≡ (has (map widened (map size_area zs)) c || (has (map widened (map reset_area i.resets.items)) c || has (map widened (map blocks_area i.blocks.items)) c))
three zs i c =
    ap (λ (w : List Area). has w c) (map-append widened (map size_area zs) (map reset_area i.resets.items ++ map blocks_area i.blocks.items))
    ∙ has-append (map widened (map size_area zs)) (map widened (map reset_area i.resets.items ++ map blocks_area i.blocks.items)) c
    ∙ ap (λ b. has (map widened (map size_area zs)) c || b)
    (ap (λ (w : List Area). has w c) (map-append widened (map reset_area i.resets.items) (map blocks_area i.blocks.items))
    ∙ has-append (map widened (map reset_area i.resets.items)) (map widened (map blocks_area i.blocks.items)) c)

middle : (a b d : Bool) → a ≡ false → d ≡ false → (a || (b || d)) ≡ b
middle a true d e f = ap (λ a. a || true) e
middle a false d e f = ap (λ a. a || d) e ∙ f

pub kind_left : (T : Tree) (p : Place) (zs : List KeptSize) (i : Inverse) → HoldsAll i T → has (left_sizes zs i) (At p KindOf) ≡ true → val T (At p KindOf) ≡ Nothing
kind_left T p zs i held e = in_resets T p KindOf (kind_at T p) i.resets.items held.resets
    (sym (three zs i (At p KindOf) ∙ middle _ _ _ (none_has size_area (At p KindOf) (size_no_kind p) zs) (none_has blocks_area (At p KindOf) (blocks_no_kind p) i.blocks.items)) ∙ e)

pub sized : (o : Option Inode) (n : ℕ) → field_value o KindOf ≡ Nothing → field_value o SizeOf ≡ ANumber n → ⊥
sized None n k e = absurd cc
sized (Some i) n k e = absurd cc

-- where a size is kept, no kind is left
kind_right : (T : Tree) (k : KeptSize) (zs : List KeptSize) (i : Inverse) → HoldsAll i T → HoldsSize T k → has (left_sizes zs i) (At k.place KindOf) ≡ false
unfolding val
kind_right T k zs i held size = go (has (left_sizes zs i) (At k.place KindOf)) refl
  where
    go : (b : Bool) → has (left_sizes zs i) (At k.place KindOf) ≡ b → b ≡ false
    go true is = absurd (sized (get T.inodes k.place) k.size (kind_left T k.place zs i held is) size)
    go false is = refl

-- ---- lengths of files

length_of : Option Inode → ℕ
length_of o = value_number (field_value o SizeOf)

resize_itself_at : (o : Option Inode) (s n : ℕ) → length_of o ≡ n → inode_after (Resized s n) o ≡ o
unfolding length_of
resize_itself_at None s n e = refl
resize_itself_at (Some i) s n e = go i.content e
  where
    go : (c : Content) → length_of (Some (record i { content = c })) ≡ n → inode_after (Resized s n) (Some (record i { content = c })) ≡ Some (record i { content = c })
    go (Names m) e = refl
    go (Bytes bs) e = ap (λ z. Some (record i { content = Bytes z })) (subst (λ z. with_size z bs ≡ bs) e (resized_same bs))

longer_at : (o : Option Inode) (s n : ℕ) → n ≤ length_of o → n ≤ length_of (inode_after (Resized s n) o)
unfolding length_of
longer_at None s n e = e
longer_at (Some i) s n e = go i.content e
  where
    go : (c : Content) → n ≤ length_of (Some (record i { content = c })) → n ≤ length_of (inode_after (Resized s n) (Some (record i { content = c })))
    go (Names m) e = e
    go (Bytes bs) e = let l : length (with_size n bs) ≡ n = length-with_size n bs in omega arith

-- a file that is lengthened and cut again
cut_back : (s n : ℕ) (bs : List ℕ) → length bs ≡ s → s ≤ n → with_size s (with_size n bs) ≡ bs
cut_back s n bs e le =
    let a : length (with_size s (with_size n bs)) ≡ s = length-with_size s (with_size n bs) in
    ext_get_or 0 (with_size s (with_size n bs)) bs (omega arith)
    (λ i lt. let here : i < s = omega arith in let there : i < n = omega arith in get_or-with_size s (with_size n bs) i here ∙ get_or-with_size n bs i there)

cut_again_at : (o : Option Inode) (s n m : ℕ) → length_of o ≡ s → s ≤ n → inode_after (Resized m s) (inode_after (Resized s n) o) ≡ o
unfolding length_of
cut_again_at None s n m e le = refl
cut_again_at (Some i) s n m e le = go i.content e
  where
    go : (c : Content) → length_of (Some (record i { content = c })) ≡ s → inode_after (Resized m s) (inode_after (Resized s n) (Some (record i { content = c }))) ≡ Some (record i { content = c })
    go (Names q) e = refl
    go (Bytes bs) e = ap (λ z. Some (record i { content = Bytes z })) (cut_back s n bs e le)

length-size_at : (T : Tree) (p : Place) → size_at T p ≡ length_of (get T.inodes p)
unfolding val length_of
length-size_at T p = refl

resize_itself : (F : Tree) (p : Place) (s n : ℕ) → size_at F p ≡ n → edit F (Inodes p (Resized s n)) ≡ F
unfolding edit
resize_itself F p s n e =
    let same = resize_itself_at (get F.inodes p) s n (sym (length-size_at F p) ∙ e) in
    ap (λ (m : FinMap place_cmp Inode). record F { inodes = m }) (set_key-get place_cmp_total place_cmp_exact F.inodes p (inode_after (Resized s n) (get F.inodes p)) (sym same))

get-edited : (F : Tree) (p : Place) (s n : ℕ) (q : Place) → get (edit F (Inodes p (Resized s n))).inodes q ≡ cond (place_eq q p) (inode_after (Resized s n) (get F.inodes p)) (get F.inodes q)
unfolding edit
get-edited F p s n q = get-set_place F.inodes p (inode_after (Resized s n) (get F.inodes p)) q

length-edited : (F : Tree) (p : Place) (s n : ℕ) → size_at (edit F (Inodes p (Resized s n))) p ≡ length_of (inode_after (Resized s n) (get F.inodes p))
length-edited F p s n = length-size_at (edit F (Inodes p (Resized s n))) p ∙ ap length_of (get-edited F p s n p ∙ ap (λ b. cond b (inode_after (Resized s n) (get F.inodes p)) (get F.inodes p)) (place_eq-itself p))

-- a file is no shorter than before where it is lengthened
grown_at : (o : Option Inode) (s n : ℕ) → length_of o ≤ n → length_of o ≤ length_of (inode_after (Resized s n) o)
unfolding length_of
grown_at None s n le = omega arith
grown_at (Some i) s n le = go i.content le
  where
    go : (c : Content) → length_of (Some (record i { content = c })) ≤ n → length_of (Some (record i { content = c })) ≤ length_of (inode_after (Resized s n) (Some (record i { content = c })))
    go (Names q) le = omega arith
    go (Bytes bs) le = let l : length (with_size n bs) ≡ n = length-with_size n bs in omega arith

longer : (F : Tree) (p : Place) (s n : ℕ) → size_at F p ≤ n → size_at F p ≤ size_at (edit F (Inodes p (Resized s n))) p
longer F p s n le =
    let a = length-edited F p s n in
    let b = length-size_at F p in
    let c : length_of (get F.inodes p) ≤ length_of (inode_after (Resized s n) (get F.inodes p)) = grown_at (get F.inodes p) s n (omega (arith, b)) in
    omega (arith, a, b, c)

edit_twice : (F : Tree) (p : Place) (s n m t : ℕ) → inode_after (Resized m t) (inode_after (Resized s n) (get F.inodes p)) ≡ get F.inodes p → edit (edit F (Inodes p (Resized s n))) (Inodes p (Resized m t)) ≡ F
unfolding edit
edit_twice F p s n m t back =
    let o = get F.inodes p in
    let o' = inode_after (Resized s n) o in
    let found : get (edit F (Inodes p (Resized s n))).inodes p ≡ o' = get-edited F p s n p ∙ ap (λ b. cond b o' o) (place_eq-itself p) in
    twice o o' found back
  where
    twice : (o o' : Option Inode) → get (edit F (Inodes p (Resized s n))).inodes p ≡ inode_after (Resized s n) (get F.inodes p) → inode_after (Resized m t) (inode_after (Resized s n) (get F.inodes p)) ≡ get F.inodes p → edit (edit F (Inodes p (Resized s n))) (Inodes p (Resized m t)) ≡ F
    twice o o' found back =
        ap (λ (m : FinMap place_cmp Inode). record F { inodes = m })
        (ap (set_key (set_key F.inodes p (inode_after (Resized s n) (get F.inodes p))) p) (ap (inode_after (Resized m t)) found ∙ back)
        ∙ set_key-set_key place_cmp_total place_cmp_exact F.inodes p (inode_after (Resized s n) (get F.inodes p)) (get F.inodes p)
        ∙ set_key-get place_cmp_total place_cmp_exact F.inodes p (get F.inodes p) refl)

-- what was lengthened is cut again
pub cut_again : (F G H : Tree) (p : Place) (n : ℕ) → (size_at F p < n → G ≡ edit F (Inodes p (Resized (size_at F p) n))) → (n ≤ size_at F p → G ≡ F)
    → (size_at F p < size_at G p → H ≡ edit G (Inodes p (Resized (size_at G p) (size_at F p)))) → (size_at G p ≤ size_at F p → H ≡ G) → H ≡ F
cut_again F G H p n grown same cut kept = go (nat_le n (size_at F p)) refl
  where
    long : n ≤ size_at F p → H ≡ F
    long le = let is : G ≡ F = same le in kept (subst (λ S. size_at S p ≤ size_at F p) (sym is) (omega arith)) ∙ is

    short : size_at F p < n → H ≡ F
    short lt = again (nat_le (size_at G p) (size_at F p)) refl
      where
        is : G ≡ edit F (Inodes p (Resized (size_at F p) n))
        is = grown lt

        returned : edit G (Inodes p (Resized (size_at G p) (size_at F p))) ≡ F
        returned = ap (λ S. edit S (Inodes p (Resized (size_at G p) (size_at F p)))) is
            ∙ edit_twice F p (size_at F p) n (size_at G p) (size_at F p) (cut_again_at (get F.inodes p) (size_at F p) n (size_at G p) (sym (length-size_at F p)) (omega arith))

        grew : size_at F p ≤ size_at G p
        grew = subst (λ S. size_at F p ≤ size_at S p) (sym is) (longer F p (size_at F p) n (omega arith))

        unmoved : size_at G p ≤ size_at F p → size_at G p ≡ size_at F p
        unmoved le = omega (arith, grew)

        again : (b : Bool) → nat_le (size_at G p) (size_at F p) ≡ b → H ≡ F
        again false e = cut (leb-false (size_at G p) (size_at F p) e) ∙ returned
        again true e =
            let le : size_at G p ≤ size_at F p = leb-true (size_at G p) (size_at F p) e in
            -- then no file stands there
            kept le ∙ sym (resize_itself G p (size_at G p) (size_at F p) (unmoved le)) ∙ returned

    go : (b : Bool) → nat_le n (size_at F p) ≡ b → H ≡ F
    go true e = long (leb-true n (size_at F p) e)
    go false e = short (leb-false n (size_at F p) e)

-- ---- a size is put back

-- where nothing but sizes and blocks is touched
resized_agrees : (w : List Area) (F T : Tree) (p : Place) (s n : ℕ) → has w (At p KindOf) ≡ false → val T (At p SizeOf) ≡ ANumber n → AgreeOutside (InodeArea p SizePart ∷ w) F T → AgreeOutside w (edit F (Inodes p (Resized s n))) T
resized_agrees w F T p s n kind size m =
    let r = back_size (has w) F T p s n kind size (record { each = m.each }) in record { each = r.each }

more_left : (a : Area) (w : List Area) (F T : Tree) → AgreeOutside w F T → AgreeOutside (a ∷ w) F T
more_left a w F T m = record { each = λ c out. m.each c (last_false (in_area a c) (has w c) out) }
  where
    last_false : (a b : Bool) → (a || b) ≡ false → b ≡ false
    last_false true b e = absurd cc
    last_false false b e = e

size_of_T : (T : Tree) (k : KeptSize) → HoldsSize T k → size_at T k.place ≡ k.size
size_of_T T k held = ap value_number held

-- one file is as long as it was, and the others are as before
roomy_step : (zs : List KeptSize) (F T : Tree) (k : KeptSize) (s : ℕ) → size_at T k.place ≤ size_at (edit F (Inodes k.place (Resized s k.size))) k.place → IsRoomy (k ∷ zs) F T → IsRoomy zs (edit F (Inodes k.place (Resized s k.size))) T
roomy_step zs F T k s here room = record { each = λ q out. go q (place_eq q k.place) refl out }
  where
    G : Tree
    G = edit F (Inodes k.place (Resized s k.size))

    elsewhere : (q : Place) → place_eq q k.place ≡ false → size_at G q ≡ size_at F q
    elsewhere q e =
        length-size_at (edit F (Inodes k.place (Resized s k.size))) q
        ∙ ap length_of (get-edited F k.place s k.size q ∙ ap (λ b. cond b (inode_after (Resized s k.size) (get F.inodes k.place)) (get F.inodes q)) e)
        ∙ sym (length-size_at F q)

    go : (q : Place) (b : Bool) → place_eq q k.place ≡ b → has (map size_area zs) (At q SizeOf) ≡ false → size_at T q ≤ size_at (edit F (Inodes k.place (Resized s k.size))) q
    go q true e out = subst (λ r. size_at T r ≤ size_at (edit F (Inodes k.place (Resized s k.size))) r) (sym (place_eq-same q k.place e)) here
    go q false e out = subst (λ x. size_at T q ≤ x) (sym (elsewhere q e)) (room.each q (ap (λ b. (b && true) || has (map size_area zs) (At q SizeOf)) e ∙ out))

-- a file is cut to its size
pub size_cut : (i : Inverse) (zs : List KeptSize) (k : KeptSize) (F G T : Tree) → HoldsAll i T → HoldsSize T k
    → (k.size < size_at F k.place → G ≡ edit F (Inodes k.place (Resized (size_at F k.place) k.size))) → (size_at F k.place ≤ k.size → G ≡ F)
    → AgreeOutside (left_sizes (k ∷ zs) i) F T × IsRoomy [] F T → AgreeOutside (left_sizes zs i) G T × IsRoomy [] G T
size_cut i zs k F G T held size cut kept (agree, room) =
    let s = size_at F k.place in
    let enough : k.size ≤ s = subst (λ x. x ≤ size_at F k.place) (size_of_T T k size) (room.each k.place refl) in
    let is : G ≡ edit F (Inodes k.place (Resized s k.size)) = resized_is enough in (
      subst (λ S. AgreeOutside (left_sizes zs i) S T) (sym is) (resized_agrees (left_sizes zs i) F T k.place s k.size (kind_right T k zs i held size) size agree),
      subst (λ S. IsRoomy [] S T) (sym is) (roomy_step [] F T k s
          (subst (λ x. x ≤ size_at (edit F (Inodes k.place (Resized s k.size))) k.place) (sym (size_of_T T k size))
          (let a = length-edited F k.place s k.size in let b = length-size_at F k.place in let c : k.size ≤ length_of (inode_after (Resized s k.size) (get F.inodes k.place)) = longer_at (get F.inodes k.place) s k.size (omega (arith, b)) in omega (arith, a, c)))
          (record { each = λ q out. room.each q refl })),
    )
  where
    resized_is : k.size ≤ size_at F k.place → G ≡ edit F (Inodes k.place (Resized (size_at F k.place) k.size))
    resized_is le = go (nat_le (size_at F k.place) k.size) refl
      where
        go : (b : Bool) → nat_le (size_at F k.place) k.size ≡ b → G ≡ edit F (Inodes k.place (Resized (size_at F k.place) k.size))
        go false e = cut (leb-false (size_at F k.place) k.size e)
        go true e =
            let le' : size_at F k.place ≤ k.size = leb-true (size_at F k.place) k.size e in
            let same : size_at F k.place ≡ k.size = omega arith in
            kept le' ∙ sym (resize_itself F k.place (size_at F k.place) k.size same)

-- a file is lengthened to its size
file_grown : (o t : Option Inode) (s n : ℕ) → s < n → field_value o KindOf ≡ field_value t KindOf → field_value t SizeOf ≡ ANumber n → n ≤ length_of (inode_after (Resized s n) o)
unfolding length_of
file_grown o None s n lt kind size = absurd cc
file_grown None (Some j) s n lt kind size = absurd cc
file_grown (Some i) (Some j) s n lt kind size = go i.content j.content kind size
  where
    go : (c d : Content) → field_value (Some (record i { content = c })) KindOf ≡ field_value (Some (record j { content = d })) KindOf → field_value (Some (record j { content = d })) SizeOf ≡ ANumber n → n ≤ length_of (inode_after (Resized s n) (Some (record i { content = c })))
    go (Bytes bs) d kind size = let l : length (with_size n bs) ≡ n = length-with_size n bs in omega (arith, l)
    go (Names p) (Bytes cs) kind size = absurd cc
    go (Names p) (Names q) kind size = let z : 0 ≡ n = number_same 0 n size in omega (arith, z)

pub size_grown : (i : Inverse) (zs : List KeptSize) (k : KeptSize) (F G T : Tree) → HoldsAll i T → HoldsSize T k
    → (size_at F k.place < k.size → G ≡ edit F (Inodes k.place (Resized (size_at F k.place) k.size))) → (k.size ≤ size_at F k.place → G ≡ F)
    → AgreeOutside (left [] i) F T → IsRoomy (k ∷ zs) F T → AgreeOutside (left [] i) G T × IsRoomy zs G T
unfolding val
size_grown i zs k F G T held size grown kept agree room = go (nat_le k.size (size_at F k.place)) refl
  where
    s : ℕ
    s = size_at F k.place

    right : has (left [] i) (At k.place KindOf) ≡ false
    right = kind_right T k i.sizes.items i held size

    short : size_at F k.place < k.size → AgreeOutside (left [] i) G T × IsRoomy zs G T
    short lt =
        let is : G ≡ edit F (Inodes k.place (Resized (size_at F k.place) k.size)) = grown lt in (
          subst (λ S. AgreeOutside (left [] i) S T) (sym is) (resized_agrees (left [] i) F T k.place (size_at F k.place) k.size right size (more_left (InodeArea k.place SizePart) (left [] i) F T agree)),
          subst (λ S. IsRoomy zs S T) (sym is) (roomy_step zs F T k (size_at F k.place)
              (subst (λ x. x ≤ size_at (edit F (Inodes k.place (Resized (size_at F k.place) k.size))) k.place) (sym (size_of_T T k size))
              (subst (λ x. k.size ≤ x) (sym (length-edited F k.place (size_at F k.place) k.size)) (at_place lt)))
              room),
        )
      where
        at_place : size_at F k.place < k.size → k.size ≤ length_of (inode_after (Resized (size_at F k.place) k.size) (get F.inodes k.place))
        at_place lt = file_grown (get F.inodes k.place) (get T.inodes k.place) (size_at F k.place) k.size lt (agree.each (At k.place KindOf) right) size

    long : k.size ≤ size_at F k.place → AgreeOutside (left [] i) G T × IsRoomy zs G T
    long le =
        let is : G ≡ F = kept le in
        (subst (λ S. AgreeOutside (left [] i) S T) (sym is) agree, subst (λ S. IsRoomy zs S T) (sym is) (record { each = λ q out. at q (place_eq q k.place) refl out }))
      where
        at : (q : Place) (b : Bool) → place_eq q k.place ≡ b → has (map size_area zs) (At q SizeOf) ≡ false → size_at T q ≤ size_at F q
        at q true e out = subst (λ r. size_at T r ≤ size_at F r) (sym (place_eq-same q k.place e)) (subst (λ x. x ≤ size_at F k.place) (sym (size_of_T T k size)) le)
        at q false e out = room.each q (ap (λ b. (b && true) || has (map size_area zs) (At q SizeOf)) e ∙ out)

    go : (b : Bool) → nat_le k.size (size_at F k.place) ≡ b → AgreeOutside (left [] i) G T × IsRoomy zs G T
    go true e = long (leb-true k.size (size_at F k.place) e)
    go false e = short (leb-false k.size (size_at F k.place) e)

-- before the sizes, files are long enough but for those
no_length : (o : Option Inode) → field_value o KindOf ≡ Nothing → length_of o ≡ 0
unfolding length_of
no_length None e = refl
no_length (Some i) e = absurd cc

wide_size : (p : Place) (zs : List KeptSize) → has (map size_area zs) (At p SizeOf) ≡ false → has (map widened (map size_area zs)) (At p SizeOf) ≡ false
wide_size p [] e = refl
wide_size p (k ∷ zs) e = go (wide_size p zs) (place_eq p k.place && true) e
  where
    go : (has (map size_area zs) (At p SizeOf) ≡ false → has (map widened (map size_area zs)) (At p SizeOf) ≡ false) → (b : Bool) → (b || has (map size_area zs) (At p SizeOf)) ≡ false → (b || has (map widened (map size_area zs)) (At p SizeOf)) ≡ false
    go later true e = absurd cc
    go later false e = later e

pub first_roomy : (i : Inverse) (F T : Tree) → HoldsAll i T → AgreeOutside (left [] i) F T → IsRoomy i.sizes.items F T
unfolding val
first_roomy i F T held agree = record { each = λ p out. go p out (has (left [] i) (At p SizeOf)) refl }
  where
    gone : (p : Place) → val T (At p KindOf) ≡ Nothing → size_at T p ≡ 0
    gone p e = length-size_at T p ∙ no_length (get T.inodes p) e

    go : (p : Place) → has (map size_area i.sizes.items) (At p SizeOf) ≡ false → (b : Bool) → has (left [] i) (At p SizeOf) ≡ b → size_at T p ≤ size_at F p
    go p out false e = let same : size_at F p ≡ size_at T p = ap value_number (agree.each (At p SizeOf) e) in omega (arith, same)
    go p out true e =
        let none : val T (At p KindOf) ≡ Nothing = in_resets T p SizeOf (size_at_left T p) i.resets.items held.resets
        (sym (three i.sizes.items i (At p SizeOf) ∙ middle _ _ _ (wide_size p i.sizes.items out) (none_has blocks_area (At p SizeOf) (blocks_no_size p) i.blocks.items)) ∙ e) in
        let zero : size_at T p ≡ 0 = gone p none in
        omega (arith, zero)

-- ---- blocks are put back

fits : (off n : ℕ) (xs : List ℕ) (t : Option Inode) → option_map (within off n) (bytes_of t) ≡ Some xs → 0 < length xs → off + length xs ≤ length_of t
unfolding length_of
fits off n xs None e some = absurd cc
fits off n xs (Some j) e some = go j.content e
  where
    go : (c : Content) → option_map (within off n) (bytes_of (Some (record j { content = c }))) ≡ Some xs → off + length xs ≤ length_of (Some (record j { content = c }))
    go (Names m) e = absurd cc
    go (Bytes bs) e =
        let same : within off n bs ≡ xs = cc in
        let a = length-take n (drop off bs) in
        let b = length-drop off bs in
        let c : length (within off n bs) ≡ length xs = ap length same in
        omega (arith, a, b, c)

pub blocks_back : (ks : List KeptBlocks) (k : KeptBlocks) (F G T : Tree) → HoldsBlocks T k
    → (0 < length k.bytes.items → 4096 * k.run.first + length k.bytes.items ≤ size_at F k.place → G ≡ edit F (Inodes k.place (Written (size_at F k.place) (4096 * k.run.first) k.bytes.items)))
    → (k.bytes.items ≡ [] → G ≡ F) → AgreeOutside (left_blocks (k ∷ ks)) F T → AgreeOutside (left_blocks ks) G T
blocks_back ks k F G T held written none agree = go k.bytes.items refl
  where
    p : Place
    p = k.place

    kind : has (left_blocks ks) (At k.place KindOf) ≡ false
    kind = none_has blocks_area (At k.place KindOf) (blocks_no_kind k.place) ks

    size : has (left_blocks ks) (At k.place SizeOf) ≡ false
    size = none_has blocks_area (At k.place SizeOf) (blocks_no_size k.place) ks

    long : size_at F k.place ≡ size_at T k.place
    long = ap value_number (agree.each (At k.place SizeOf) (none_has blocks_area (At k.place SizeOf) (blocks_no_size k.place) (k ∷ ks)))

    mixed : MixedTree (λ c. in_area (InodeArea k.place (BlocksPart k.run)) c || has (left_blocks ks) c) F T
    mixed = record { each = agree.each }

    go : (xs : List ℕ) → k.bytes.items ≡ xs → AgreeOutside (left_blocks ks) G T
    go [] is =
        let m = back_past (has (left_blocks ks)) F T k.place k.run kind size (held ∙ ap Some is) mixed in
        subst (λ S. AgreeOutside (left_blocks ks) S T) (sym (none is)) (record { each = m.each })
    go (x ∷ xs) is =
        let some : 0 < length k.bytes.items = subst (λ ys. 0 < length ys) (sym is) (omega arith) in
        let fit : 4096 * k.run.first + length k.bytes.items ≤ length_of (get T.inodes k.place) = fits (4096 * k.run.first) (4096 * (k.run.more + 1)) k.bytes.items (get T.inodes k.place) held some in
        let a = length-size_at T k.place in
        let m = back_blocks (has (left_blocks ks)) F T k.place (size_at F k.place) k.run k.bytes.items kind size held some mixed in
        subst (λ S. AgreeOutside (left_blocks ks) S T) (sym (written some (omega (arith, a, long, fit)))) (record { each = m.each })
