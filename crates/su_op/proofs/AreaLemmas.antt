-- Areas overlap exactly where they share a cell.
use Rattle.std.proofs.Common.{◌≡◌, ℕ, ◌+◌, ◌<◌, ◌≤◌, Bool, true, false, ◌&&◌, ◌||◌, nat_le, max, List, [], ◌∷◌, ◌↔◌, refl, sym, ap, ◌∙◌, subst, arith}
use Rattle.std.proofs.lemmas.Bool.{leb-true, leb-false, and_from, and_parts}
use Rattle.std.specs.List.{list_any}
use Rattle.su_node.specs.Name.{Name, name_eq}
use Rattle.su_bytes.specs.Place.{Place, place_eq}
use Rattle.su_node.specs.Field.{Field, Field.KindOf, Field.LinksOf, Field.SizeOf, Field.BlockOf, Field.NameOf}
use Rattle.su_table.specs.Cell.{Cell, Cell.At, Cell.Pointer}
use Rattle.su_op.specs.declared.areas.Part.{Part}
use Rattle.su_op.specs.declared.areas.Part.TheVariants.{Kind as KindPart, Links as LinksPart, Size as SizePart, Name as NamePart, Blocks as BlocksPart, Whole as WholePart}
use Rattle.su_op.specs.declared.areas.Area.{Area}
use Rattle.su_op.specs.declared.areas.Area.TheVariants.{Inode as InodeArea, Pointer as PointerArea}
use Rattle.su_op.specs.Area.{in_part, in_area, has, ShareACell, parts_overlap, overlaps, meet}
use Rattle.su_op.proofs.KeyLemmas.{place_eq-same, place_eq-itself, name_eq-same, name_eq-itself}
use Rattle.std.proofs.lemmas.Bool.{or_parts}

-- ---- areas that don't overlap share no cell

both_names : (x y z : Name) → name_eq x y ≡ false → name_eq z x ≡ true → name_eq z y ≡ false
both_names x y z d e = subst (λ w. name_eq w y ≡ false) (sym (name_eq-same z x e)) d

both_places : (p q r : Place) → place_eq p q ≡ false → place_eq r p ≡ true → place_eq r q ≡ false
both_places p q r d e = subst (λ w. place_eq w q ≡ false) (sym (place_eq-same r p e)) d

blocks_apart : (a b c d n : ℕ) → (nat_le a d && nat_le c b) ≡ false → (nat_le a n && nat_le n b) ≡ true → (nat_le c n && nat_le n d) ≡ false
blocks_apart a b c d n out here = go (nat_le a d) refl (nat_le c b) refl (nat_le a n) refl (nat_le n b) refl (nat_le c n) refl (nat_le n d) refl out here
  where
    go : (ad : Bool) → nat_le a d ≡ ad → (cb : Bool) → nat_le c b ≡ cb → (an : Bool) → nat_le a n ≡ an → (nb : Bool) → nat_le n b ≡ nb → (cn : Bool) → nat_le c n ≡ cn → (nd : Bool) → nat_le n d ≡ nd
        → (ad && cb) ≡ false → (an && nb) ≡ true → (cn && nd) ≡ false
    go ad i cb j an k nb l false m nd o out here = refl
    go ad i cb j an k nb l true m false o out here = refl
    go ad i cb j false k nb l true m true o out here = absurd cc
    go ad i cb j true k false l true m true o out here = absurd cc
    go true i true j true k true l true m true o out here = absurd cc
    go false i cb j true k true l true m true o out here =
        let x : d < a = leb-false a d i in let y : a ≤ n = leb-true a n k in let z : n ≤ d = leb-true n d o in absurd (omega arith)
    go true i false j true k true l true m true o out here =
        let x : b < c = leb-false c b j in let y : c ≤ n = leb-true c n m in let z : n ≤ b = leb-true n b l in absurd (omega arith)

parts_apart : (a b : Part) (f : Field) → parts_overlap a b ≡ false → in_part a f ≡ true → in_part b f ≡ false
parts_apart WholePart b f out here = absurd cc
parts_apart KindPart WholePart f out here = absurd cc
parts_apart LinksPart WholePart f out here = absurd cc
parts_apart SizePart WholePart f out here = absurd cc
parts_apart (NamePart x) WholePart f out here = absurd cc
parts_apart (BlocksPart c) WholePart f out here = absurd cc
parts_apart KindPart KindPart f out here = absurd cc
parts_apart LinksPart LinksPart f out here = absurd cc
parts_apart SizePart SizePart f out here = absurd cc
parts_apart (NamePart x) (NamePart y) (NameOf z) out here = both_names x y z out here
parts_apart (BlocksPart a) (BlocksPart c) (BlockOf n) out here = blocks_apart a.first (a.first + a.more) c.first (c.first + c.more) n out here
parts_apart KindPart (BlocksPart c) KindOf out here = refl
parts_apart KindPart (NamePart c) KindOf out here = refl
parts_apart KindPart LinksPart KindOf out here = refl
parts_apart KindPart SizePart KindOf out here = refl
parts_apart LinksPart (BlocksPart c) LinksOf out here = refl
parts_apart LinksPart (NamePart c) LinksOf out here = refl
parts_apart LinksPart KindPart LinksOf out here = refl
parts_apart LinksPart SizePart LinksOf out here = refl
parts_apart SizePart (BlocksPart c) SizeOf out here = refl
parts_apart SizePart (NamePart c) SizeOf out here = refl
parts_apart SizePart KindPart SizeOf out here = refl
parts_apart SizePart LinksPart SizeOf out here = refl
parts_apart (NamePart x) (BlocksPart c) (NameOf y) out here = refl
parts_apart (NamePart x) LinksPart (NameOf y) out here = refl
parts_apart (NamePart x) KindPart (NameOf y) out here = refl
parts_apart (NamePart x) SizePart (NameOf y) out here = refl
parts_apart (BlocksPart a) (NamePart c) (BlockOf n) out here = refl
parts_apart (BlocksPart a) LinksPart (BlockOf n) out here = refl
parts_apart (BlocksPart a) KindPart (BlockOf n) out here = refl
parts_apart (BlocksPart a) SizePart (BlockOf n) out here = refl
parts_apart a b f out here = absurd cc

area_apart : (a b : Area) (c : Cell) → overlaps a b ≡ false → in_area a c ≡ true → in_area b c ≡ false
area_apart (PointerArea g) (PointerArea k) (Pointer l) out here = both_places g k l out here
area_apart (PointerArea g) (PointerArea k) (At q f) out here = refl
area_apart (PointerArea g) (InodeArea q b) (Pointer l) out here = refl
area_apart (PointerArea g) (InodeArea q b) (At r f) out here = absurd cc
area_apart (InodeArea p a) (PointerArea k) (At q f) out here = refl
area_apart (InodeArea p a) (PointerArea k) (Pointer l) out here = absurd cc
area_apart (InodeArea p a) (InodeArea q b) (Pointer l) out here = refl
area_apart (InodeArea p a) (InodeArea q b) (At r f) out here = go (place_eq p q) refl (place_eq r p) refl (place_eq r q) refl out here
  where
    go : (pq : Bool) → place_eq p q ≡ pq → (rp : Bool) → place_eq r p ≡ rp → (rq : Bool) → place_eq r q ≡ rq → (pq && parts_overlap a b) ≡ false → (rp && in_part a f) ≡ true → (rq && in_part b f) ≡ false
    go pq i rp j false k out here = refl
    go pq i false j true k out here = absurd cc
    go true i true j true k out here = parts_apart a b f out here
    go false i true j true k out here = absurd (let e = sym (both_places p q r i j) ∙ k in cc)

one_apart : (a : Area) (w : List Area) (c : Cell) → list_any (overlaps a) w ≡ false → in_area a c ≡ true → has w c ≡ false
one_apart a [] c out here = refl
one_apart a (b ∷ w) c out here =
    let (x, y) = or_parts (overlaps a b) (list_any (overlaps a) w) out in
    ap (λ z. z || has w c) (area_apart a b c x here) ∙ one_apart a w c y here

pub areas_apart : (u w : List Area) (c : Cell) → meet u w ≡ false → has u c ≡ true → has w c ≡ false
areas_apart [] w c out here = absurd cc
areas_apart (a ∷ u) w c out here =
    let (first, rest) = or_parts (list_any (overlaps a) w) (meet u w) out in
    go first (areas_apart u w c rest) (in_area a c) refl here
  where
    go : list_any (overlaps a) w ≡ false → (has u c ≡ true → has w c ≡ false) → (b : Bool) → in_area a c ≡ b → (b || has u c) ≡ true → has w c ≡ false
    go first later true is here = one_apart a w c first is
    go first later false is here = later here

-- ---- areas that overlap share a cell

le_true : (a b : ℕ) → a ≤ b → nat_le a b ≡ true
le_true a b le = go (nat_le a b) refl
  where
    go : (x : Bool) → nat_le a b ≡ x → nat_le a b ≡ true
    go true is = is
    go false is = let lt : b < a = leb-false a b is in absurd (omega arith)

at_place : (p q : Place) (a b : Part) (f : Field) → place_eq p q ≡ true → in_part a f ≡ true → in_part b f ≡ true → ShareACell (InodeArea p a) (InodeArea q b)
at_place p q a b f e x y = record { cell = At p f; first = and_from _ _ (place_eq-itself p) x; second = and_from _ _ e y }

-- a cell of a part
some_field : (a : Part) → (f : Field) × (in_part a f ≡ true)
some_field KindPart = (KindOf, refl)
some_field LinksPart = (LinksOf, refl)
some_field SizePart = (SizeOf, refl)
some_field WholePart = (KindOf, refl)
some_field (NamePart x) = (NameOf x, name_eq-itself x)
some_field (BlocksPart a) = (BlockOf a.first, and_from _ _ (le_true a.first a.first (omega arith)) (le_true a.first (a.first + a.more) (omega arith)))

shared_parts : (p q : Place) (a b : Part) → place_eq p q ≡ true → parts_overlap a b ≡ true → ShareACell (InodeArea p a) (InodeArea q b)
shared_parts p q WholePart b e o = let (f, i) = some_field b in at_place p q WholePart b f e refl i
shared_parts p q KindPart WholePart e o = at_place p q KindPart WholePart KindOf e refl refl
shared_parts p q LinksPart WholePart e o = at_place p q LinksPart WholePart LinksOf e refl refl
shared_parts p q SizePart WholePart e o = at_place p q SizePart WholePart SizeOf e refl refl
shared_parts p q (NamePart n) WholePart e o = at_place p q (NamePart n) WholePart (NameOf n) e (name_eq-itself n) refl
shared_parts p q (BlocksPart a) WholePart e o = let (f, i) = some_field (BlocksPart a) in at_place p q (BlocksPart a) WholePart f e i refl
shared_parts p q KindPart KindPart e o = at_place p q KindPart KindPart KindOf e refl refl
shared_parts p q LinksPart LinksPart e o = at_place p q LinksPart LinksPart LinksOf e refl refl
shared_parts p q SizePart SizePart e o = at_place p q SizePart SizePart SizeOf e refl refl
shared_parts p q (NamePart m) (NamePart n) e o = at_place p q (NamePart m) (NamePart n) (NameOf m) e (name_eq-itself m) o
shared_parts p q (BlocksPart a) (BlocksPart c) e o =
    let (l, r) = and_parts (nat_le a.first (c.first + c.more)) (nat_le c.first (a.first + a.more)) o in
    let before = leb-true a.first (c.first + c.more) l in
    let after = leb-true c.first (a.first + a.more) r in
    let n = max a.first c.first in
    at_place p q (BlocksPart a) (BlocksPart c) (BlockOf n) e
    (and_from _ _ (le_true a.first n (omega arith)) (le_true n (a.first + a.more) (omega arith)))
    (and_from _ _ (le_true c.first n (omega arith)) (le_true n (c.first + c.more) (omega arith)))
shared_parts p q a b e o = absurd cc

pub overlap_shares : (a b : Area) → overlaps a b ≡ true → ShareACell a b
overlap_shares (PointerArea g) (PointerArea k) o = record { cell = Pointer g; first = place_eq-itself g; second = o }
overlap_shares (InodeArea p a) (InodeArea q b) o = let (e, i) = and_parts (place_eq p q) (parts_overlap a b) o in shared_parts p q a b e i
overlap_shares (PointerArea g) (InodeArea q b) o = absurd cc
overlap_shares (InodeArea p a) (PointerArea k) o = absurd cc

apart_not : (b : Bool) → b ≡ true → b ≡ false → ⊥
apart_not b e d = absurd cc

pub overlaps_exact : (a b : Area) → (overlaps a b ≡ true) ↔ ShareACell a b
overlaps_exact a b = (overlap_shares a b, λ s. go s (overlaps a b) refl)
  where
    go : ShareACell a b → (o : Bool) → overlaps a b ≡ o → overlaps a b ≡ true
    go s true is = is
    go s false is = absurd (apart_not (in_area b s.cell) s.second (area_apart a b s.cell is s.first))
