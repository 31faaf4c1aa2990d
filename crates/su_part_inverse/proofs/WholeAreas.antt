-- Areas that are made whole.
use Rattle.std.proofs.Common.{◌≡◌, ◌∙◌, Bool, true, false, cond, ◌||◌, ◌&&◌, List, [], ◌∷◌, ◌++◌, map, refl, sym, ap}
use Rattle.std.proofs.lemmas.Bool.{and_parts}
use Rattle.su_bytes.specs.Place.{Place, place_eq}
use Rattle.su_table.specs.Tree.{Tree}
use Rattle.su_table.specs.Cell.{Cell, Cell.At, Cell.Pointer}
use Rattle.su_table.specs.Query.{is_free_at}
use Rattle.su_op.specs.declared.areas.Part.TheVariants.{Kind as KindPart, Links as LinksPart, Size as SizePart, Name as NamePart, Blocks as BlocksPart, Whole as WholePart}
use Rattle.su_op.specs.declared.areas.Area.{Area}
use Rattle.su_op.specs.declared.areas.Area.TheVariants.{Inode as InodeArea, Pointer as PointerArea}
use Rattle.su_op.specs.Area.{has, in_area, in_part}
use Rattle.su_part_forest.specs.declared.forests.PartForest.{PartForest}
use Rattle.su_perform.specs.Loaded.{HasArea, HasAreas}
use Rattle.su_inverse.specs.Kept.{CanKeep}
use Rattle.su_inverse.specs.Whole.{made_whole}
use Rattle.su_inverse.proofs.AreaListLemmas.{has-push}

-- an inode has its kind
pub kind_in_whole : (p : Place) (c : Cell) → in_area (InodeArea p KindPart) c ≡ true → in_area (InodeArea p WholePart) c ≡ true
kind_in_whole p (At q f) is = ap (λ b. b && true) (and_parts (place_eq q p) (in_part KindPart f) is).0
kind_in_whole p (Pointer g) is = absurd cc

-- it is made whole where something stands
pub made_kind : (T : Tree) (p : Place) (b : Bool) → b ≡ is_free_at T p → cond b (InodeArea p KindPart) (InodeArea p WholePart) ≡ made_whole T (InodeArea p KindPart)
made_kind T p b e = ap (λ x. cond x (InodeArea p KindPart) (InodeArea p WholePart)) e

-- what is made whole can be kept
pub made_can : (T : Tree) (a : Area) → CanKeep T (made_whole T a)
made_can T (InodeArea p KindPart) = go (is_free_at T p) refl
  where
    go : (b : Bool) → is_free_at T p ≡ b → CanKeep T (cond b (InodeArea p KindPart) (InodeArea p WholePart))
    go true e = e
    go false e = tt
made_can T (InodeArea p LinksPart) = tt
made_can T (InodeArea p SizePart) = tt
made_can T (InodeArea p (NamePart x)) = tt
made_can T (InodeArea p (BlocksPart r)) = tt
made_can T (InodeArea p WholePart) = tt
made_can T (PointerArea g) = tt

-- and is loaded where the area was
made_loaded : (T : Tree) (f : PartForest) (a : Area) → HasArea T f a → HasArea T f (made_whole T a)
made_loaded T f (InodeArea p KindPart) has = go (is_free_at T p)
  where
    go : (b : Bool) → HasArea T f (cond b (InodeArea p KindPart) (InodeArea p WholePart))
    go true = has
    go false = has
made_loaded T f (InodeArea p LinksPart) has = has
made_loaded T f (InodeArea p SizePart) has = has
made_loaded T f (InodeArea p (NamePart x)) has = has
made_loaded T f (InodeArea p (BlocksPart r)) has = has
made_loaded T f (InodeArea p WholePart) has = has
made_loaded T f (PointerArea g) has = has

pub all_loaded : (T : Tree) (f : PartForest) (w : List Area) → HasAreas T f w → HasAreas T f (map (made_whole T) w)
all_loaded T f [] has = tt
all_loaded T f (a ∷ w) (has, more) = (made_loaded T f a has, all_loaded T f w more)

pub map_further : (f : Area → Area) (xs : List Area) (x : Area) → map f (xs ++ x ∷ []) ≡ map f xs ++ f x ∷ []
map_further f [] x = refl
map_further f (y ∷ xs) x = ap (λ v. f y ∷ v) (map_further f xs x)

-- one area more is covered
pub covers_more : (u w : List Area) (a b : Area) → ((c : Cell) → has u c ≡ true → has w c ≡ true) → ((c : Cell) → in_area a c ≡ true → in_area b c ≡ true)
    → (c : Cell) → has (u ++ a ∷ []) c ≡ true → has (w ++ b ∷ []) c ≡ true
covers_more u w a b all one c is = has-push w b c ∙ go (has u c) (in_area a c) refl refl (sym (has-push u a c) ∙ is)
  where
    that : (x y : Bool) → y ≡ true → (x || y) ≡ true
    that true y e = refl
    that false y e = e

    go : (x y : Bool) → has u c ≡ x → in_area a c ≡ y → (has u c || in_area a c) ≡ true → (has w c || in_area b c) ≡ true
    go true y e d is = ap (λ z. z || in_area b c) (all c e)
    go false true e d is = that (has w c) (in_area b c) (one c d)
    go false false e d is = absurd (let z : false ≡ true = sym (ap (λ x. x || in_area a c) e ∙ d) ∙ is in cc)
