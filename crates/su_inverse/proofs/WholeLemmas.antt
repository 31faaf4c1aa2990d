-- What is kept of areas that are made whole, and that it is kept of what a batch writes.
use Rattle.std.proofs.Common.{◌≡◌, Bool, true, false, cond, ◌||◌, ◌&&◌, ◌⊎◌, inl, inr, List, [], ◌∷◌, ◌++◌, map, refl, sym, ap, ◌∙◌}
use Rattle.std.proofs.lemmas.Bool.{both_ways}
use Rattle.su_bytes.specs.Membership.{Membership}
use Rattle.su_bytes.specs.Place.{Place, place_eq}
use Rattle.su_node.specs.Field.{Field.KindOf}
use Rattle.su_table.specs.Tree.{Tree}
use Rattle.su_table.specs.Cell.{Cell, Cell.At, Cell.Pointer}
use Rattle.su_table.specs.Query.{is_nothing, is_free_at}
use Rattle.su_op.specs.declared.areas.Part.TheVariants.{Kind as KindPart, Links as LinksPart, Size as SizePart, Name as NamePart, Blocks as BlocksPart, Whole as WholePart}
use Rattle.su_op.specs.declared.areas.Area.{Area}
use Rattle.su_op.specs.declared.areas.Area.TheVariants.{Inode as InodeArea, Pointer as PointerArea}
use Rattle.su_op.specs.Area.{in_part, in_area, has}
use Rattle.su_op.specs.Action.{Action}
use Rattle.su_op.specs.Store.{store}
use Rattle.su_op.specs.Batch.{areas}
use Rattle.su_op.specs.Soundness.{Sound, WholeOrNew}
use Rattle.su_op.proofs.Public.{place_eq-itself, place_eq-same, has_joined, list_kind, lists_lawful}
use Rattle.su_inverse.specs.declared.inverses.Inverse.{Inverse}
use Rattle.su_inverse.specs.Kept.{inverse_areas, IsKeptOf, IsPutBack}
use Rattle.su_undo.specs.Batch.{all_ok, all_acted, all_writes}
use Rattle.su_inverse.specs.Whole.{made_whole, KindsChangeWhole}

or_either : (a b : Bool) → (a || b) ≡ true → (a ≡ true) ⊎ (b ≡ true)
or_either true b e = inl refl
or_either false b e = inr e

same_truth : (a b : Bool) → (a ≡ true → b ≡ true) → (b ≡ true → a ≡ true) → a ≡ b
same_truth true b f g = sym (f refl)
same_truth false true f g = g refl
same_truth false false f g = refl

or_this : (a b : Bool) → a ≡ true → (a || b) ≡ true
or_this a b e = ap (λ x. x || b) e

or_that : (a b : Bool) → b ≡ true → (a || b) ≡ true
or_that true b e = refl
or_that false b e = e

or_none : (a b : Bool) → (a || b) ≡ false → (a ≡ false) × (b ≡ false)
or_none true b e = absurd (let bad : true ≡ false = e in cc)
or_none false b e = (refl, e)

and_first : (a b : Bool) → (a && b) ≡ true → a ≡ true
and_first true b e = refl
and_first false b e = absurd (let bad : false ≡ true = e in cc)

and_second : (a b : Bool) → (a && b) ≡ true → b ≡ true
and_second true b e = e
and_second false b e = absurd (let bad : false ≡ true = e in cc)

-- ---- areas made whole

kind_covered : (b : Bool) (p : Place) (c : Cell) → in_area (InodeArea p KindPart) c ≡ true → in_area (cond b (InodeArea p KindPart) (InodeArea p WholePart)) c ≡ true
kind_covered true p c here = here
kind_covered false p (At q f) here = ap (λ x. x && true) (and_first (place_eq q p) (in_part KindPart f) here)
kind_covered false p (Pointer k) here = absurd (let bad : false ≡ true = here in cc)

covered : (T : Tree) (a : Area) (c : Cell) → in_area a c ≡ true → in_area (made_whole T a) c ≡ true
covered T (InodeArea p KindPart) c here = kind_covered (is_free_at T p) p c here
covered T (InodeArea p LinksPart) c here = here
covered T (InodeArea p SizePart) c here = here
covered T (InodeArea p (NamePart x)) c here = here
covered T (InodeArea p (BlocksPart r)) c here = here
covered T (InodeArea p WholePart) c here = here
covered T (PointerArea g) c here = here

pub all_covered : (T : Tree) (v : List Area) (c : Cell) → has v c ≡ true → has (map (made_whole T) v) c ≡ true
all_covered T [] c here = here
all_covered T (a ∷ v) c here = go (all_covered T v c) (or_either (in_area a c) (has v c) here)
  where
    go : (has v c ≡ true → has (map (made_whole T) v) c ≡ true) → (in_area a c ≡ true) ⊎ (has v c ≡ true) → (in_area (made_whole T a) c || has (map (made_whole T) v) c) ≡ true
    go rest (inl one) = or_this (in_area (made_whole T a) c) (has (map (made_whole T) v) c) (covered T a c one)
    go rest (inr more) = or_that (in_area (made_whole T a) c) (has (map (made_whole T) v) c) (rest more)

module _ (T : Tree) (w : List Area) (kinds : KindsChangeWhole T w) where
  -- all of an inode that stands, whose kind is among the areas
  whole_in : (p : Place) (c : Cell) → is_free_at T p ≡ false → WholeOrNew T p (has w) → in_area (InodeArea p WholePart) c ≡ true → has w c ≡ true
  whole_in p c stands (inl nothing) here = absurd (both_ways (is_free_at T p) stands (ap is_nothing nothing))
  whole_in p (At q f) stands (inr whole) here = ap (λ r. has w (At r f)) (place_eq-same q p (and_first (place_eq q p) true here)) ∙ whole f
  whole_in p (Pointer k) stands (inr whole) here = absurd (let bad : false ≡ true = here in cc)

  kind_in : (b : Bool) (p : Place) (c : Cell) → is_free_at T p ≡ b → ((d : Cell) → in_area (InodeArea p KindPart) d ≡ true → has w d ≡ true) → in_area (cond b (InodeArea p KindPart) (InodeArea p WholePart)) c ≡ true → has w c ≡ true
  kind_in true p c free each here = each c here
  kind_in false p c stands each here = whole_in p c stands (kinds p (each (At p KindOf) (ap (λ x. x && true) (place_eq-itself p)))) here

  one_in : (a : Area) (c : Cell) → ((d : Cell) → in_area a d ≡ true → has w d ≡ true) → in_area (made_whole T a) c ≡ true → has w c ≡ true
  one_in (InodeArea p KindPart) c each here = kind_in (is_free_at T p) p c refl each here
  one_in (InodeArea p LinksPart) c each here = each c here
  one_in (InodeArea p SizePart) c each here = each c here
  one_in (InodeArea p (NamePart x)) c each here = each c here
  one_in (InodeArea p (BlocksPart r)) c each here = each c here
  one_in (InodeArea p WholePart) c each here = each c here
  one_in (PointerArea g) c each here = each c here

  all_in : (v : List Area) (c : Cell) → ((d : Cell) → has v d ≡ true → has w d ≡ true) → has (map (made_whole T) v) c ≡ true → has w c ≡ true
  all_in [] c each here = absurd (let bad : false ≡ true = here in cc)
  all_in (a ∷ v) c each here =
      go (all_in v c (λ d is. each d (or_that (in_area a d) (has v d) is))) (or_either (in_area (made_whole T a) c) (has (map (made_whole T) v) c) here)
    where
      go : (has (map (made_whole T) v) c ≡ true → has w c ≡ true) → (in_area (made_whole T a) c ≡ true) ⊎ (has (map (made_whole T) v) c ≡ true) → has w c ≡ true
      go rest (inl one) = one_in a c (λ d is. each d (or_this (in_area a d) (has v d) is)) one
      go rest (inr more) = rest more

  -- they have the same cells
  pub made_same : (c : Cell) → has (map (made_whole T) w) c ≡ has w c
  made_same c = same_truth (has (map (made_whole T) w) c) (has w c) (all_in w c (λ d is. is)) (all_covered T w c)

-- ---- batches

pub batch_kinds : (ro : Membership) (T : Tree) (xs : List Action) → Sound T → all_ok (store ro) T xs ≡ true → KindsChangeWhole T (all_writes (store ro) (areas ro) T xs)
batch_kinds ro T xs sound ok p wrote = list_kind ro T xs p sound ok wrote

pub front_ok : (ro : Membership) (T : Tree) (xs ys : List Action) → all_ok (store ro) T (xs ++ ys) ≡ true → all_ok (store ro) T xs ≡ true
front_ok ro T [] ys ok = refl
front_ok ro T (x ∷ xs) ys ok =
    ap (λ b. b && all_ok (store ro) ((store ro).act T x) xs) (and_first ((store ro).ok T x) (all_ok (store ro) ((store ro).act T x) (xs ++ ys)) ok)
    ∙ front_ok ro ((store ro).act T x) xs ys (and_second ((store ro).ok T x) (all_ok (store ro) ((store ro).act T x) (xs ++ ys)) ok)

-- what a whole batch doesn't write, its first operations don't
pub front_out : (ro : Membership) (T : Tree) (xs ys : List Action) (c : Cell) → has (all_writes (store ro) (areas ro) T (xs ++ ys)) c ≡ false → has (all_writes (store ro) (areas ro) T xs) c ≡ false
front_out ro T [] ys c out = refl
front_out ro T (x ∷ xs) ys c out =
    let u = (store ro).writes T x in
    let w = all_writes (store ro) (areas ro) ((store ro).act T x) xs in
    let more = all_writes (store ro) (areas ro) ((store ro).act T x) (xs ++ ys) in
    let p = or_none (has u c) (has more c) (sym (has_joined u more c) ∙ out) in
    has_joined u w c ∙ ap (λ b. b || has w c) p.0 ∙ front_out ro ((store ro).act T x) xs ys c p.1

pub back_after : (ro : Membership) (T : Tree) (xs ys : List Action) (i : Inverse) → Sound T → all_ok (store ro) T (xs ++ ys) ≡ true
    → ((c : Cell) → has (inverse_areas i) c ≡ has (all_writes (store ro) (areas ro) T (xs ++ ys)) c) → IsKeptOf i T → IsPutBack i (all_acted (store ro) T xs) T
back_after ro T xs ys i sound ok same kept = record {
  kept = kept;
  others = λ c out. (lists_lawful ro).leaves T xs sound (front_ok ro T xs ys ok) c (front_out ro T xs ys c (sym (same c) ∙ out));
}
