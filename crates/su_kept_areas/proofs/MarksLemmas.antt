-- Marks of areas: those of one at an index, and that who reads a cell has a mark under which who wrote it
-- looks.
use Rattle.std.proofs.Common.{◌≡◌, ℕ, zero, suc, ◌+◌, ◌-◌, ◌<◌, ◌≤◌, Bool, true, false, ◌&&◌, ◌||◌, cond, ◌⊎◌, nat_eq, nat_lt, List, [], ◌∷◌, ◌++◌, length, get_or, refl, sym, ◌∙◌, ap, subst, inl, inr, arith}
use Rattle.std.proofs.lemmas.Bool.{eq-eqb, lt-ltb, not-true, not-false}
use Rattle.std.proofs.lemmas.Bool.Decides.{nat_tests}
use Rattle.std.proofs.lemmas.List.Folds.{list_any_at, list_any-append}
use Rattle.std.specs.List.{list_any}
use Rattle.su_bytes.specs.Place.{Place, place_eq}
use Rattle.su_op.proofs.Public.{name_eq-same, place_eq-same}
use Rattle.su_op.specs.Area.{overlaps, parts_overlap, runs_overlap, meet}
use Rattle.su_op.specs.declared.areas.BlockRun.{BlockRun}
use Rattle.su_op.specs.declared.areas.Part.{Part}
use Rattle.su_op.specs.declared.areas.Part.TheVariants.{Kind as KindPart, Links as LinksPart, Size as SizePart, Name as NamePart, Blocks as BlocksPart, Whole as WholePart}
use Rattle.su_op.specs.declared.areas.Area.{Area}
use Rattle.su_op.specs.declared.areas.Area.TheVariants.{Inode as InodeArea, Pointer as PointerArea}
use Rattle.su_kept_areas.specs.declared.marks.TheConstants.{FEW_BLOCKS}
use Rattle.su_kept_areas.specs.declared.marks.Cells.TheVariants.{Kind, Links, Size, Broad, Any, Pointer}
use Rattle.su_kept_areas.specs.declared.marks.Side.TheVariants.{Read, Written}
use Rattle.su_kept_areas.specs.Marks.{mark_at, name_mark, block_mark, run_marks, is_broad, own_marks, marks, all_marks, has_mark}

-- ---- by index

pub length-run_marks : (p : Place) (first more : ℕ) → length (run_marks p first more) ≡ more + 1
length-run_marks p first zero = refl
length-run_marks p first (suc more) = omega (arith, length-run_marks p (first + 1) more)

pub run_mark : (p : Place) (first more i : ℕ) → i ≤ more → get_or (run_marks p first more) i 0 ≡ block_mark p (first + i)
run_mark p first zero zero within = ap (block_mark p) (omega arith)
run_mark p first zero (suc i) within = absurd (omega arith)
run_mark p first (suc more) zero within = ap (block_mark p) (omega arith)
run_mark p first (suc more) (suc i) within =
    run_mark p (first + 1) more i (omega arith) ∙ ap (block_mark p) (omega arith)

few_is : (r : BlockRun) → r.more < FEW_BLOCKS → nat_lt r.more FEW_BLOCKS ≡ true
few_is r few = lt-ltb r.more FEW_BLOCKS few

-- of few blocks each has a mark
own_of_few : (p : Place) (r : BlockRun) → r.more < FEW_BLOCKS → own_marks p (BlocksPart r) ≡ run_marks p r.first r.more
own_of_few p r few = ap (λ b. cond b (run_marks p r.first r.more) (mark_at Broad p ∷ [])) (few_is r few)

pub length-few : (p : Place) (r : BlockRun) → r.more < FEW_BLOCKS → length (own_marks p (BlocksPart r)) ≡ r.more + 1
length-few p r few = ap length (own_of_few p r few) ∙ length-run_marks p r.first r.more

pub few_mark : (p : Place) (r : BlockRun) (i : ℕ) → r.more < FEW_BLOCKS → i < length (own_marks p (BlocksPart r)) → get_or (own_marks p (BlocksPart r)) i 0 ≡ block_mark p (r.first + i)
few_mark p r i few within =
    let last : i ≤ r.more = omega (arith, length-few p r few) in
    ap (λ ms. get_or ms i 0) (own_of_few p r few) ∙ run_mark p r.first r.more i last

-- the first of a list, and those behind it
pub at_front : (x : ℕ) (xs : List ℕ) (i : ℕ) → i ≡ 0 → get_or (x ∷ xs) i 0 ≡ x
at_front x xs zero none = refl
at_front x xs (suc i) none = absurd (omega arith)

pub at_behind : (x : ℕ) (xs : List ℕ) (i : ℕ) → 0 < i → get_or (x ∷ xs) i 0 ≡ get_or xs (i - 1) 0
at_behind x xs zero some = absurd (omega arith)
at_behind x xs (suc i) some = let e : i ≡ suc i - 1 = omega arith in ap (λ k. get_or xs k 0) e

-- ---- marks in common

-- a mark of both lists
pub record Share (xs ys : List ℕ) : Type 0 where
  pub mark : ℕ
  pub first : has_mark xs mark ≡ true
  pub second : has_mark ys mark ≡ true

front_has : (m : ℕ) (ms : List ℕ) → has_mark (m ∷ ms) m ≡ true
front_has m ms = ap (λ b. b || has_mark ms m) (eq-eqb m m refl)

or_true : (b : Bool) → (b || true) ≡ true
or_true true = refl
or_true false = refl

behind_has : (x m : ℕ) (ms : List ℕ) → has_mark ms m ≡ true → has_mark (x ∷ ms) m ≡ true
behind_has x m ms has = ap (λ b. nat_eq m x || b) has ∙ or_true (nat_eq m x)

one_each : (m : ℕ) → Share (m ∷ []) (m ∷ [])
one_each m = record { mark = m; first = front_has m []; second = front_has m [] }

run_has : (p : Place) (first more n : ℕ) → first ≤ n → n ≤ first + more → has_mark (run_marks p first more) (block_mark p n) ≡ true
run_has p first more n above below =
    let within : n - first < length (run_marks p first more) = omega (arith, length-run_marks p first more) in
    let here : first + (n - first) ≡ n = omega arith in
    let at : get_or (run_marks p first more) (n - first) 0 ≡ block_mark p n =
    run_mark p first more (n - first) (omega arith) ∙ ap (block_mark p) here in
    list_any_at (nat_eq (block_mark p n)) (run_marks p first more) (n - first) 0 within (eq-eqb (block_mark p n) _ (sym at))

runs_share_at : (p : Place) (r s : BlockRun) (n : ℕ) → r.first ≤ n → n ≤ r.first + r.more → s.first ≤ n → n ≤ s.first + s.more
    → Share (run_marks p r.first r.more) (run_marks p s.first s.more)
runs_share_at p r s n a b c d =
    record { mark = block_mark p n; first = run_has p r.first r.more n a b; second = run_has p s.first s.more n c d }

-- runs that overlap have the later one of their first blocks in common
runs_share : (p : Place) (r s : BlockRun) → runs_overlap r s ≡ true → Share (run_marks p r.first r.more) (run_marks p s.first s.more)
runs_share p r s meets =
    let one : r.first ≤ s.first + s.more = grind (arith, nat_tests) in
    let two : s.first ≤ r.first + r.more = grind (arith, nat_tests) in
    let order : (r.first ≤ s.first) ⊎ (s.first ≤ r.first) = grind arith in
    elim order [
      | inl le ↦ runs_share_at p r s s.first le two (omega arith) (omega arith)
      | inr le ↦ runs_share_at p r s r.first (omega arith) (omega arith) le one
    ]

runs_share_few : (p : Place) (r s : BlockRun) (a b : Bool) → a ≡ true → b ≡ true → runs_overlap r s ≡ true
    → Share (cond a (run_marks p r.first r.more) (mark_at Broad p ∷ [])) (cond b (run_marks p s.first s.more) (mark_at Broad p ∷ []))
runs_share_few p r s a b few_r few_s meets =
    subst (λ x. Share (cond x (run_marks p r.first r.more) (mark_at Broad p ∷ [])) (cond b (run_marks p s.first s.more) (mark_at Broad p ∷ []))) (sym few_r)
    (subst (λ y. Share (run_marks p r.first r.more) (cond y (run_marks p s.first s.more) (mark_at Broad p ∷ []))) (sym few_s) (runs_share p r s meets))

-- narrow parts of one inode that overlap have a mark in common
narrow_share : (p : Place) (a b : Part) → is_broad a ≡ false → is_broad b ≡ false → parts_overlap a b ≡ true → Share (own_marks p a) (own_marks p b)
narrow_share p KindPart KindPart na nb meets = one_each (mark_at Kind p)
narrow_share p LinksPart LinksPart na nb meets = one_each (mark_at Links p)
narrow_share p SizePart SizePart na nb meets = one_each (mark_at Size p)
narrow_share p (NamePart x) (NamePart y) na nb meets =
    subst (λ z. Share (name_mark p x ∷ []) (name_mark p z ∷ [])) (name_eq-same x y meets) (one_each (name_mark p x))
narrow_share p (BlocksPart r) (BlocksPart s) na nb meets =
    runs_share_few p r s (nat_lt r.more FEW_BLOCKS) (nat_lt s.more FEW_BLOCKS) (not-false _ na) (not-false _ nb) meets
narrow_share p a b na nb meets = absurd (cc)

-- a broad part has the mark of those
broad_has : (p : Place) (a : Part) → is_broad a ≡ true → has_mark (own_marks p a) (mark_at Broad p) ≡ true
broad_has p WholePart broad = front_has (mark_at Broad p) []
broad_has p (BlocksPart r) broad =
    let few : nat_lt r.more FEW_BLOCKS ≡ false = not-true (nat_lt r.more FEW_BLOCKS) broad in
    ap (λ b. has_mark (cond b (run_marks p r.first r.more) (mark_at Broad p ∷ [])) (mark_at Broad p)) few ∙ front_has (mark_at Broad p) []
broad_has p a broad = absurd (cc)

abbrev looked : Place → Part → Bool → List ℕ
looked p b broad = mark_at (cond broad Any Broad) p ∷ cond broad [] (own_marks p b)

parts_share_at : (p : Place) (a b : Part) (broad_a broad_b : Bool) → is_broad a ≡ broad_a → is_broad b ≡ broad_b → parts_overlap a b ≡ true
    → Share (mark_at Any p ∷ own_marks p a) (looked p b broad_b)
parts_share_at p a b broad_a true is_a is_b meets =
    record { mark = mark_at Any p; first = front_has (mark_at Any p) (own_marks p a); second = front_has (mark_at Any p) [] }
parts_share_at p a b true false is_a is_b meets = record {
  mark = mark_at Broad p;
  first = behind_has (mark_at Any p) (mark_at Broad p) (own_marks p a) (broad_has p a is_a);
  second = front_has (mark_at Broad p) (own_marks p b);
}
parts_share_at p a b false false is_a is_b meets =
    let s = narrow_share p a b is_a is_b meets in
    record {
      mark = s.mark;
      first = behind_has (mark_at Any p) s.mark (own_marks p a) s.first;
      second = behind_has (mark_at Broad p) s.mark (own_marks p b) s.second;
    }

and_parts : (a b : Bool) → (a && b) ≡ true → (a ≡ true) × (b ≡ true)
and_parts true true e = (refl, refl)
and_parts true false e = absurd (cc)
and_parts false b e = absurd (cc)

-- who reads what one wrote has a mark under which that one looks
pub overlapping_share : (r w : Area) → overlaps r w ≡ true → Share (marks Read r) (marks Written w)
overlapping_share (InodeArea p a) (InodeArea q b) meets =
    let parts = and_parts (place_eq p q) (parts_overlap a b) meets in
    subst (λ z. Share (marks Read (InodeArea p a)) (marks Written (InodeArea z b))) (place_eq-same p q parts.0)
    (parts_share_at p a b (is_broad a) (is_broad b) refl refl parts.1)
overlapping_share (PointerArea g) (PointerArea k) meets =
    subst (λ z. Share (mark_at Pointer g ∷ []) (mark_at Pointer z ∷ [])) (place_eq-same g k meets) (one_each (mark_at Pointer g))
overlapping_share (InodeArea p a) (PointerArea k) meets = absurd (cc)
overlapping_share (PointerArea g) (InodeArea q b) meets = absurd (cc)

-- ---- lists of areas

first_has_mark : (xs ys : List ℕ) (m : ℕ) → has_mark xs m ≡ true → has_mark (xs ++ ys) m ≡ true
first_has_mark xs ys m has = list_any-append (nat_eq m) xs ys ∙ ap (λ b. b || has_mark ys m) has

second_has_mark : (xs ys : List ℕ) (m : ℕ) → has_mark ys m ≡ true → has_mark (xs ++ ys) m ≡ true
second_has_mark xs ys m has = list_any-append (nat_eq m) xs ys ∙ ap (λ b. has_mark xs m || b) has ∙ or_true (has_mark xs m)

one_more_share : (r w : Area) (ws : List Area) (b : Bool) → overlaps r w ≡ b → (b || list_any (overlaps r) ws) ≡ true
    → (list_any (overlaps r) ws ≡ true → Share (marks Read r) (all_marks Written ws)) → Share (marks Read r) (all_marks Written (w ∷ ws))
one_more_share r w ws true e meets on =
    let s = overlapping_share r w e in
    record { mark = s.mark; first = s.first; second = first_has_mark (marks Written w) (all_marks Written ws) s.mark s.second }
one_more_share r w ws false e meets on =
    let s = on meets in
    record { mark = s.mark; first = s.first; second = second_has_mark (marks Written w) (all_marks Written ws) s.mark s.second }

one_share : (r : Area) (ws : List Area) → list_any (overlaps r) ws ≡ true → Share (marks Read r) (all_marks Written ws)
one_share r [] meets = absurd (cc)
one_share r (w ∷ ws) meets = one_more_share r w ws (overlaps r w) refl meets (one_share r ws)

more_share : (r : Area) (rs ws : List Area) (b : Bool) → list_any (overlaps r) ws ≡ b → (b || meet rs ws) ≡ true
    → (meet rs ws ≡ true → Share (all_marks Read rs) (all_marks Written ws)) → Share (all_marks Read (r ∷ rs)) (all_marks Written ws)
more_share r rs ws true e meets on =
    let s = one_share r ws e in
    record { mark = s.mark; first = first_has_mark (marks Read r) (all_marks Read rs) s.mark s.first; second = s.second }
more_share r rs ws false e meets on =
    let s = on meets in
    record { mark = s.mark; first = second_has_mark (marks Read r) (all_marks Read rs) s.mark s.first; second = s.second }

-- who reads some of what one wrote has a mark under which that one looks
pub meeting_share : (rs ws : List Area) → meet rs ws ≡ true → Share (all_marks Read rs) (all_marks Written ws)
meeting_share [] ws meets = absurd (cc)
meeting_share (r ∷ rs) ws meets = more_share r rs ws (list_any (overlaps r) ws) refl meets (meeting_share rs ws)
