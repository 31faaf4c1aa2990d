-- The areas that an inverse keeps, and those that are left.
use Rattle.std.proofs.Common.{◌≡◌, Bool, true, false, ◌||◌, ◌&&◌, List, [], ◌∷◌, ◌++◌, map, Some, None, refl, sym, ap, ◌∙◌}
use Rattle.std.proofs.lemmas.List.{map-append}
use Rattle.std.proofs.lemmas.List.Folds.{list_any-append}
use Rattle.su_node.specs.Field.{Field, Field.KindOf}
use Rattle.su_bytes.specs.Place.{Place, place_eq}
use Rattle.su_table.specs.Tree.{Tree}
use Rattle.su_table.specs.Cell.{Cell, Cell.At, Cell.Pointer}
use Rattle.su_table.specs.Edit.{edit, edits}
use Rattle.su_op.specs.declared.areas.Part.TheVariants.{Kind as KindPart, Links as LinksPart, Size as SizePart, Name as NamePart, Blocks as BlocksPart, Whole as WholePart}
use Rattle.su_op.specs.declared.areas.Area.{Area}
use Rattle.su_op.specs.declared.areas.Area.TheVariants.{Inode as InodeArea, Pointer as PointerArea}
use Rattle.su_op.specs.Area.{in_part, in_area, has}
use Rattle.su_inverse.specs.declared.returns.Return.{Return}
use Rattle.su_inverse.specs.declared.returns.Return.TheVariants.{Inode as InodeReturn, Name as NameReturn, Pointer as PointerReturn}
use Rattle.su_inverse.specs.declared.resets.Reset.{Reset}
use Rattle.su_inverse.specs.declared.resets.Reset.TheVariants.{Nothing as NothingReset, Links as LinksReset}
use Rattle.su_inverse.specs.declared.contents.KeptSize.{KeptSize}
use Rattle.su_inverse.specs.declared.contents.KeptBlocks.{KeptBlocks}
use Rattle.su_inverse.specs.declared.inverses.Inverse.{Inverse}
use Rattle.su_inverse.specs.Kept.{return_area, size_area, reset_area, blocks_area, inverse_areas, IsKeptOf, IsPutBack, HoldsReturn, HoldsReset, HoldsNothing, return_edit, reset_edits, nothing_edits}
use Rattle.su_inverse.specs.Remaining.{widened, left, AgreeOutside, HoldsAll}
use Rattle.su_inverse.proofs.MixedLemmas.{IsClosed, MixedTree, back_name, back_links, back_gone, back_whole, back_none, back_pointer, back_no_blocks}
use Rattle.std.proofs.lemmas.Bool.{or_parts}

-- ---- one area more

pub has-append : (u w : List Area) (c : Cell) → has (u ++ w) c ≡ (has u c || has w c)
has-append u w c = list_any-append (λ a. in_area a c) u w

one : (a : Area) (c : Cell) → has (a ∷ []) c ≡ in_area a c
one a c = go (in_area a c)
  where
    go : (b : Bool) → (b || false) ≡ b
    go true = refl
    go false = refl

pub has-push : (w : List Area) (a : Area) (c : Cell) → has (w ++ a ∷ []) c ≡ (has w c || in_area a c)
has-push w a c = has-append w (a ∷ []) c ∙ ap (λ b. has w c || b) (one a c)

swap : (a r e : Bool) → ((a || e) || r) ≡ ((a || r) || e)
swap true r e = refl
swap false true true = refl
swap false true false = refl
swap false false true = refl
swap false false false = refl

under : (a b r e : Bool) → r ≡ (b || e) → (a || r) ≡ ((a || b) || e)
under true b r e is = refl
under false b r e is = is

module _ {X : Type 0} (area : X → Area) where
  -- one more in front of other areas
  pub push_here : (xs : List X) (x : X) (rest : List Area) (c : Cell) → has (map area (xs ++ x ∷ []) ++ rest) c ≡ (has (map area xs ++ rest) c || in_area (area x) c)
  push_here xs x rest c =
      has-append (map area (xs ++ x ∷ [])) rest c
      ∙ ap (λ (w : List Area). has w c || has rest c) (map-append area xs (x ∷ []))
      ∙ ap (λ b. b || has rest c) (has-push (map area xs) (area x) c)
      ∙ swap (has (map area xs) c) (has rest c) (in_area (area x) c)
      ∙ ap (λ b. b || in_area (area x) c) (sym (has-append (map area xs) rest c))

  pub push_last : (xs : List X) (x : X) (c : Cell) → has (map area (xs ++ x ∷ [])) c ≡ (has (map area xs) c || in_area (area x) c)
  push_last xs x c = ap (λ (w : List Area). has w c) (map-append area xs (x ∷ [])) ∙ has-push (map area xs) (area x) c

-- one more behind other areas
pub push_behind : (u v w : List Area) (a : Area) (c : Cell) → has v c ≡ (has w c || in_area a c) → has (u ++ v) c ≡ (has (u ++ w) c || in_area a c)
push_behind u v w a c is =
    has-append u v c ∙ under (has u c) (has w c) (has v c) (in_area a c) is ∙ ap (λ b. b || in_area a c) (sym (has-append u w c))

abbrev pub all_areas : List Return → List KeptSize → List Reset → List KeptBlocks → List Area
all_areas rs zs ss bs = map return_area rs ++ (map size_area zs ++ (map reset_area ss ++ map blocks_area bs))

-- ---- what is left

kind_or_not : (a : Area) (p : Place) (f : Field) → in_area (widened a) (At p KindOf) ≡ true → in_area (widened a) (At p f) ≡ true
kind_or_not (PointerArea g) p f e = absurd cc
kind_or_not (InodeArea q KindPart) p f e = e
kind_or_not (InodeArea q WholePart) p f e = e
kind_or_not (InodeArea q LinksPart) p f e = absurd (none (place_eq p q) e)
  where
    none : (b : Bool) → (b && false) ≡ true → ⊥
    none true e = absurd cc
    none false e = absurd cc
kind_or_not (InodeArea q SizePart) p f e = absurd (none (place_eq p q) e)
  where
    none : (b : Bool) → (b && false) ≡ true → ⊥
    none true e = absurd cc
    none false e = absurd cc
kind_or_not (InodeArea q (NamePart x)) p f e = absurd (none (place_eq p q) e)
  where
    none : (b : Bool) → (b && false) ≡ true → ⊥
    none true e = absurd cc
    none false e = absurd cc
kind_or_not (InodeArea q (BlocksPart r)) p f e = absurd (none (place_eq p q) e)
  where
    none : (b : Bool) → (b && false) ≡ true → ⊥
    none true e = absurd cc
    none false e = absurd cc

closed : (w : List Area) (p : Place) (f : Field) → has (map widened w) (At p KindOf) ≡ true → has (map widened w) (At p f) ≡ true
closed [] p f e = absurd cc
closed (a ∷ w) p f e = go (closed w p f) (in_area (widened a) (At p KindOf)) refl e
  where
    first : (b c : Bool) → b ≡ true → (b || c) ≡ true
    first b c e = ap (λ b. b || c) e

    last : (b c : Bool) → c ≡ true → (b || c) ≡ true
    last true c e = refl
    last false c e = e

    go : (has (map widened w) (At p KindOf) ≡ true → has (map widened w) (At p f) ≡ true) → (b : Bool) → in_area (widened a) (At p KindOf) ≡ b → (b || has (map widened w) (At p KindOf)) ≡ true → has (map widened (a ∷ w)) (At p f) ≡ true
    go later true is e = first _ _ (kind_or_not a p f is)
    go later false is e = last (in_area (widened a) (At p f)) _ (later e)

pub left_closed : (w : List Area) → IsClosed (has (map widened w))
left_closed w = record { each = closed w }

in_wide : (a : Area) (c : Cell) → in_area (widened a) c ≡ false → in_area a c ≡ false
in_wide (PointerArea g) c e = e
in_wide (InodeArea q KindPart) (Pointer g) e = refl
in_wide (InodeArea q KindPart) (At p f) e = go (place_eq p q) (in_part KindPart f) e
  where
    go : (b d : Bool) → (b && true) ≡ false → (b && d) ≡ false
    go true d e = absurd cc
    go false d e = refl
in_wide (InodeArea q WholePart) c e = e
in_wide (InodeArea q LinksPart) c e = e
in_wide (InodeArea q SizePart) c e = e
in_wide (InodeArea q (NamePart x)) c e = e
in_wide (InodeArea q (BlocksPart r)) c e = e

pub has-widened : (w : List Area) (c : Cell) → has (map widened w) c ≡ false → has w c ≡ false
has-widened [] c e = refl
has-widened (a ∷ w) c e =
    let (x, y) = or_parts (in_area (widened a) c) (has (map widened w) c) e in
    ap (λ b. b || has w c) (in_wide a c x) ∙ has-widened w c y

to_mixed : (w : List Area) (F T : Tree) → AgreeOutside w F T → MixedTree (has w) F T
to_mixed w F T m = record { each = m.each }

to_agree : (w : List Area) (F T : Tree) → MixedTree (has w) F T → AgreeOutside w F T
to_agree w F T m = record { each = m.each }

-- something is brought back
pub returned : (r : Return) (w : List Area) (F T : Tree) → HoldsReturn T r → AgreeOutside (map widened (return_area r ∷ w)) F T → AgreeOutside (map widened w) (edit F (return_edit r)) T
returned (InodeReturn p i) w F T held m = to_agree _ _ T (back_whole (has (map widened w)) F T p i held (to_mixed _ F T m))
returned (NameReturn p x f) w F T held m = to_agree _ _ T (back_name (has (map widened w)) F T p x (Some f) (left_closed w) (sym held) (to_mixed _ F T m))
returned (PointerReturn g p) w F T held m = to_agree _ _ T (back_pointer (has (map widened w)) F T g (Some p) (sym held) (to_mixed _ F T m))

cleared : (a : Area) (w : List Area) (F T : Tree) → HoldsNothing T a → AgreeOutside (map widened (a ∷ w)) F T → AgreeOutside (map widened w) (edits F (nothing_edits a)) T
cleared (PointerArea g) w F T held m = to_agree _ _ T (back_pointer (has (map widened w)) F T g None (sym held) (to_mixed _ F T m))
cleared (InodeArea p KindPart) w F T held m = to_agree _ _ T (back_gone (has (map widened w)) F T p held (to_mixed _ F T m))
cleared (InodeArea p WholePart) w F T held m = to_agree _ _ T (back_gone (has (map widened w)) F T p held (to_mixed _ F T m))
cleared (InodeArea p (NamePart x)) w F T held m = to_agree _ _ T (back_name (has (map widened w)) F T p x None (left_closed w) (sym held) (to_mixed _ F T m))
cleared (InodeArea p LinksPart) w F T held m = to_agree _ _ T (back_none (has (map widened w)) F T p LinksPart (left_closed w) refl held (to_mixed _ F T m))
cleared (InodeArea p SizePart) w F T held m = to_agree _ _ T (back_none (has (map widened w)) F T p SizePart (left_closed w) refl held (to_mixed _ F T m))
cleared (InodeArea p (BlocksPart r)) w F T held m = to_agree _ _ T (back_no_blocks (has (map widened w)) F T p r (left_closed w) held (to_mixed _ F T m))

-- something is set again
pub reset : (r : Reset) (w : List Area) (F T : Tree) → HoldsReset T r → AgreeOutside (map widened (reset_area r ∷ w)) F T → AgreeOutside (map widened w) (edits F (reset_edits r)) T
reset (NothingReset a) w F T held m = cleared a w F T held m
reset (LinksReset p n) w F T held m = to_agree _ _ T (back_links (has (map widened w)) F T p n (left_closed w) held (to_mixed _ F T m))

-- at first all areas are left
pub left_over : (i : Inverse) (F T : Tree) → IsPutBack i F T → AgreeOutside (left i.returns.items i) F T
left_over i F T put = record { each = λ c out. put.others c (has-widened (inverse_areas i) c out) }

pub held_all : (i : Inverse) (T : Tree) → IsKeptOf i T → HoldsAll i T
held_all i T kept = record { sizes = kept.sizes; resets = kept.resets; blocks = kept.blocks }
