-- Marks that are gone over: the next one, and what is left behind it.
use Rattle.std.proofs.Common.{◌≡◌, ℕ, zero, suc, ◌+◌, ◌<◌, List, [], ◌∷◌, ◌++◌, length, get_or, drop, refl, sym, ◌∙◌, ap, subst, arith, length-append, drop-cons}
use Rattle.std.proofs.Math.ListN.{get_or-append}
use Rattle.std.proofs.Math.Seq.{drop-append_seam}
use Rattle.su_op.specs.declared.areas.Area.{Area}
use Rattle.su_op.specs.declared.areas.Area.TheVariants.{Inode as InodeArea, Pointer as PointerArea}
use Rattle.su_op.specs.declared.footprints.Footprint.{Footprint}
use Rattle.su_kept_areas.specs.Sided.{Spells}
use Rattle.su_kept_areas.specs.declared.marks.Side.{Side}
use Rattle.su_kept_areas.specs.Marks.{marks, all_marks, areas_on, marks_from, IsWithinFirst, GoesOver}
use Rattle.su_kept_areas.proofs.Lists.{IsSplit, others_spelled}

-- ---- lists

drop_next : {X : Type 0} (n : ℕ) (xs : List X) (x : X) (u : List X) → drop n xs ≡ x ∷ u → drop (n + 1) xs ≡ u
drop_next zero [] x u e = absurd (cc)
drop_next zero (y ∷ ys) x u e = cc
drop_next (suc n) [] x u e = absurd (cc)
drop_next {X} (suc n) (y ∷ ys) x u e =
    let one : suc n + 1 ≡ suc (n + 1) = omega arith in
    ap (λ k. drop k (y ∷ ys)) one ∙ drop_next n ys x u e

-- ---- the next mark

pub length-marks : (side : Side) (a : Area) → 0 < length (marks side a)
length-marks side (InodeArea p part) = omega arith
length-marks side (PointerArea g) = omega arith

within_first : (side : Side) (areas : List Area) → IsWithinFirst side 0 areas
within_first side [] = refl
within_first side (a ∷ areas) = length-marks side a

-- of the areas that are left, a is the first, and those behind it are spelled there; of its marks not all were passed
pub record Begins (side : Side) (f : Footprint) (passed : ℕ) (a : Area) (behind : List ℕ) (i : ℕ) : Type 0 where
  pub others : List Area
  pub whole : drop passed (areas_on side f) ≡ a ∷ others
  pub spelled : Spells side behind others
  pub within : i < length (marks side a)

pub begins : (side : Side) (f : Footprint) (passed : ℕ) (left : List ℕ) (i : ℕ) (a : Area) (behind : List ℕ)
    → GoesOver side f passed left i → IsSplit side left a behind → 0 < length left → Begins side f passed a behind i
begins side f passed left i a behind over split some =
    let o = others_spelled side left a behind split some (drop passed (areas_on side f)) over.spelled in
    record { others = o.0; whole = o.2; spelled = o.1; within = subst (IsWithinFirst side i) o.2 over.within }

module _ (side : Side) (f : Footprint) (passed : ℕ) (a : Area) (behind : List ℕ) (i : ℕ) (b : Begins side f passed a behind i) where
  all_are : all_marks side (drop passed (areas_on side f)) ≡ marks side a ++ all_marks side b.others
  all_are = ap (all_marks side) b.whole

  -- the mark there, and those behind it
  pub next_mark : marks_from side i (drop passed (areas_on side f)) ≡ get_or (marks side a) i 0 ∷ marks_from side (i + 1) (drop passed (areas_on side f))
  next_mark =
      let all = all_marks side (drop passed (areas_on side f)) in
      let within : i < length all = omega (arith, b.within, ap length all_are, length-append (marks side a) (all_marks side b.others)) in
      let one : suc i ≡ i + 1 = omega arith in
      drop-cons all i 0 within ∙ ap (λ m. m ∷ drop (suc i) all) (ap (λ ms. get_or ms i 0) all_are ∙ get_or-append (marks side a) (all_marks side b.others) 0 i b.within)
      ∙ ap (λ k. get_or (marks side a) i 0 ∷ drop k all) one

  -- where it is the area's last one, those behind it are of the others
  pub last_mark : i + 1 ≡ length (marks side a) → marks_from side i (drop passed (areas_on side f)) ≡ get_or (marks side a) i 0 ∷ all_marks side (drop (passed + 1) (areas_on side f))
  last_mark last =
      next_mark ∙ ap (λ ms. get_or (marks side a) i 0 ∷ ms)
      (ap (λ k. drop k (all_marks side (drop passed (areas_on side f)))) last ∙ ap (drop (length (marks side a))) all_are
      ∙ drop-append_seam (marks side a) (all_marks side b.others)
      ∙ ap (all_marks side) (sym (drop_next passed (areas_on side f) a b.others b.whole)))

  -- the same of a mark that is known to be the one there
  pub next_is : (old : List ℕ) (m : ℕ) → marks_from side i (drop passed (areas_on side f)) ≡ old → m ≡ get_or (marks side a) i 0 → old ≡ m ∷ marks_from side (i + 1) (drop passed (areas_on side f))
  next_is old m was is = sym was ∙ next_mark ∙ ap (λ x. x ∷ marks_from side (i + 1) (drop passed (areas_on side f))) (sym is)

  pub last_is : (old : List ℕ) (m : ℕ) → marks_from side i (drop passed (areas_on side f)) ≡ old → m ≡ get_or (marks side a) i 0 → i + 1 ≡ length (marks side a)
      → old ≡ m ∷ all_marks side (drop (passed + 1) (areas_on side f))
  last_is old m was is last = sym was ∙ last_mark last ∙ ap (λ x. x ∷ all_marks side (drop (passed + 1) (areas_on side f))) (sym is)

  pub over_next : (left : List ℕ) → GoesOver side f passed left i → length behind < length left → GoesOver side f (passed + 1) behind 0
  over_next left over shorter =
      let rest : drop (passed + 1) (areas_on side f) ≡ b.others = drop_next passed (areas_on side f) a b.others b.whole in
      record {
        spelled = subst (Spells side behind) (sym rest) b.spelled;
        within = within_first side (drop (passed + 1) (areas_on side f));
        few = omega (arith, over.few);
      }

  -- where it isn't the last one
  pub over_same : (left : List ℕ) → GoesOver side f passed left i → i + 1 < length (marks side a) → GoesOver side f passed left (i + 1)
  over_same left over next =
      record { spelled = over.spelled; within = subst (IsWithinFirst side (i + 1)) (sym b.whole) next; few = over.few }
