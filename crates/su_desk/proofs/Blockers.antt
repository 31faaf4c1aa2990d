-- What stands in the way of an undo: nothing before the operation, and nothing of the last one;
-- where there is nothing, no later live operation read what it wrote; and the same by cells.
use Rattle.std.proofs.Common.{◌≡◌, ℕ, ◌<◌, ◌≤◌, ◌&&◌, ◌||◌, ◌↔◌, Bool, true, false, cond, List, [], ◌∷◌, ◌++◌, nat_lt, Option, Some, None, refl, sym, ap, ◌∙◌, subst, arith}
use Rattle.std.specs.Prelude.{All, Contains}
use Rattle.std.specs.List.{filter, list_any, AllByRecursion}
use Rattle.std.specs.Option.{option_or, unwrap_or}
use Rattle.std.proofs.lemmas.Bool.{and_parts, and_from, or_left, or_right, both_ways}
use Rattle.std.proofs.lemmas.List.Elements.{All-from_recursion, recursion_from_All, All-contains, Contains-push, Contains-append_left, Contains-append_right}
use Rattle.su_bytes.specs.Membership.{Membership}
use Rattle.su_table.specs.Cell.{Cell}
use Rattle.su_op.specs.declared.areas.Area.{Area}
use Rattle.su_op.specs.Area.{in_area, has, overlaps, meet}
use Rattle.su_op.proofs.Public.{areas_apart, overlap_shares}
use Rattle.su_desk.specs.declared.entries.Entry.{Entry}
use Rattle.su_desk.specs.History.{NumberedAction, live, last_number, last_live}
use Rattle.su_desk.specs.Applied.{reads_where_applied, written_by}
use Rattle.su_desk.specs.Blocker.{reads_after, blocker, HaveCommonCell, ReadsCellOf, IsLastReader}
use Rattle.su_desk.proofs.Operations.{Rising, rising_live, rising_after}

-- operations up to number n didn't come after it
early : (ro : Membership) (h : List Entry) (n : ℕ) (t : NumberedAction) → t.number ≤ n → reads_after ro h n t ≡ false
early ro h n t le = let before : nat_lt n t.number ≡ false = grind arith in ap (λ b. b && meet (reads_where_applied ro h t) (written_by ro h n)) before

dropped : (ro : Membership) (h : List Entry) (n : ℕ) (t : NumberedAction) (ts : List NumberedAction) → t.number ≤ n → filter (reads_after ro h n) (t ∷ ts) ≡ filter (reads_after ro h n) ts
dropped ro h n t ts le = ap (λ b. cond b (t ∷ filter (reads_after ro h n) ts) (filter (reads_after ro h n) ts)) (early ro h n t le)

pub front_dropped : (ro : Membership) (h : List Entry) (low : ℕ) (before after : List NumberedAction) (t : NumberedAction) → Rising low (before ++ t ∷ after) → filter (reads_after ro h t.number) (before ++ t ∷ after) ≡ filter (reads_after ro h t.number) after
front_dropped ro h low [] after t r = dropped ro h t.number t after (omega arith)
front_dropped ro h low (u ∷ before) after t (l, r) = let m = middle u.number before r in dropped ro h t.number u (before ++ t ∷ after) (omega arith) ∙ front_dropped ro h u.number before after t r
  where
    middle : (low : ℕ) (before : List NumberedAction) → Rising low (before ++ t ∷ after) → low < t.number
    middle low [] (l, r) = l
    middle low (x ∷ before) (l, r) = let m = middle x.number before r in omega arith

-- ---- where nothing stands in the way, the later ones didn't read it

-- no one of these read a cell of the areas where it was applied
abbrev pub UnreadBy : Membership → List Entry → List Area → List NumberedAction → Type 0
UnreadBy ro h w [] = Unit {0}
UnreadBy ro h w (t ∷ ts) = (meet (reads_where_applied ro h t) w ≡ false) × UnreadBy ro h w ts

unread_after : (ro : Membership) (h : List Entry) (n low : ℕ) (ts : List NumberedAction) → n ≤ low → Rising low ts → last_number (filter (reads_after ro h n) ts) ≡ None → UnreadBy ro h (written_by ro h n) ts
unread_after ro h n low [] le r e = tt
unread_after ro h n low (t ∷ ts) le (l, r) e = go (reads_after ro h n t) refl e (unread_after ro h n t.number ts (omega arith) r)
  where
    later : nat_lt n t.number ≡ true
    later = grind arith

    found : (o : Option ℕ) → option_or o (Some t.number) ≡ None → ⊥
    found None e = let bad : Some t.number ≡ None = e in cc
    found (Some m) e = let bad : Some m ≡ None = e in cc

    go : (b : Bool) → reads_after ro h n t ≡ b → last_number (cond b (t ∷ filter (reads_after ro h n) ts) (filter (reads_after ro h n) ts)) ≡ None → (last_number (filter (reads_after ro h n) ts) ≡ None → UnreadBy ro h (written_by ro h n) ts) → UnreadBy ro h (written_by ro h n) (t ∷ ts)
    go true is e rest = absurd (found (last_number (filter (reads_after ro h n) ts)) e)
    go false is e rest = (ap (λ b. b && meet (reads_where_applied ro h t) (written_by ro h n)) (sym later) ∙ is, rest e)

pub free_unread : (ro : Membership) (h : List Entry) (before after : List NumberedAction) (t : NumberedAction) → live h ≡ before ++ t ∷ after → blocker ro h t.number ≡ None → UnreadBy ro h (written_by ro h t.number) after
free_unread ro h before after t is free =
    let rising : Rising 0 (before ++ t ∷ after) = subst (Rising 0) is (rising_live h) in
    unread_after ro h t.number t.number after (omega arith) (rising_after 0 before after t rising)
    (ap last_number (sym (front_dropped ro h 0 before after t rising) ∙ ap (filter (reads_after ro h t.number)) (sym is)) ∙ free)

-- ---- the last live operation is never blocked

-- the last number of rising ones is the greatest
at_most_last : (m : ℕ) (ts : List NumberedAction) → Rising m ts → m ≤ unwrap_or (option_or (last_number ts) (Some m)) 0
at_most_last m [] r = omega arith
at_most_last m (t ∷ ts) (l, r) = go (last_number ts) (at_most_last t.number ts r)
  where
    go : (o : Option ℕ) → t.number ≤ unwrap_or (option_or o (Some t.number)) 0 → m ≤ unwrap_or (option_or (option_or o (Some t.number)) (Some m)) 0
    go None le = omega arith
    go (Some k) le = omega arith

none_after_last : (ro : Membership) (h : List Entry) (low n : ℕ) (ts : List NumberedAction) → Rising low ts → unwrap_or (last_number ts) 0 ≤ n → filter (reads_after ro h n) ts ≡ []
none_after_last ro h low n [] r is = refl
none_after_last ro h low n (t ∷ ts) (l, r) is =
    let top = at_most_last t.number ts r in
    dropped ro h n t ts (omega arith) ∙ none_after_last ro h t.number n ts r (go (last_number ts) is)
  where
    go : (o : Option ℕ) → unwrap_or (option_or o (Some t.number)) 0 ≤ n → unwrap_or o 0 ≤ n
    go None le = omega arith
    go (Some k) le = le

pub latest_free : (ro : Membership) (h : List Entry) → blocker ro h (last_live h) ≡ None
latest_free ro h = ap last_number (none_after_last ro h 0 (last_live h) (live h) (rising_live h) (omega arith))

-- ---- areas meet in a cell

in_some : (a : Area) (w : List Area) → list_any (overlaps a) w ≡ true → (c : Cell) × (in_area a c ≡ true) × (has w c ≡ true)
in_some a [] e = absurd (let bad : false ≡ true = e in cc)
in_some a (b ∷ w) e = go (overlaps a b) refl e (in_some a w)
  where
    go : (o : Bool) → overlaps a b ≡ o → (o || list_any (overlaps a) w) ≡ true → (list_any (overlaps a) w ≡ true → (c : Cell) × (in_area a c ≡ true) × (has w c ≡ true)) → (c : Cell) × (in_area a c ≡ true) × (has (b ∷ w) c ≡ true)
    go true is e ih = let s = overlap_shares a b is in (s.cell, s.first, or_left (in_area b s.cell) (has w s.cell) s.second)
    go false is e ih = let r = ih e in (r.0, r.1, or_right (in_area b r.0) (has w r.0) r.2)

common_cell : (u w : List Area) → meet u w ≡ true → HaveCommonCell u w
common_cell [] w e = absurd (let bad : false ≡ true = e in cc)
common_cell (a ∷ u) w e = go (list_any (overlaps a) w) refl e (common_cell u w)
  where
    go : (o : Bool) → list_any (overlaps a) w ≡ o → (o || meet u w) ≡ true → (meet u w ≡ true → HaveCommonCell u w) → HaveCommonCell (a ∷ u) w
    go true is e ih = let s = in_some a w is in record { cell = s.0; first = or_left (in_area a s.0) (has u s.0) s.1; second = s.2 }
    go false is e ih = let r = ih e in record { cell = r.cell; first = or_right (in_area a r.cell) (has u r.cell) r.first; second = r.second }

common_meet : (u w : List Area) → HaveCommonCell u w → meet u w ≡ true
common_meet u w s = go (meet u w) refl
  where
    go : (b : Bool) → meet u w ≡ b → meet u w ≡ true
    go true is = is
    go false is = absurd (both_ways (has w s.cell) (areas_apart u w s.cell is s.first) s.second)

pub meet_exact : (u w : List Area) → (meet u w ≡ true) ↔ HaveCommonCell u w
meet_exact u w = (common_cell u w, common_meet u w)

-- ---- a blocker by cells

by_cells : (ro : Membership) (h : List Entry) (n : ℕ) (t : NumberedAction) → reads_after ro h n t ≡ true → ReadsCellOf ro h n t
by_cells ro h n t e =
    let (after, met) = and_parts (nat_lt n t.number) (meet (reads_where_applied ro h t) (written_by ro h n)) e in
    record { later = grind arith; common = common_cell (reads_where_applied ro h t) (written_by ro h n) met }

from_cells : (ro : Membership) (h : List Entry) (n : ℕ) (t : NumberedAction) → ReadsCellOf ro h n t → reads_after ro h n t ≡ true
from_cells ro h n t r =
    let later = r.later in
    and_from (nat_lt n t.number) (meet (reads_where_applied ro h t) (written_by ro h n)) (grind arith) (common_meet (reads_where_applied ro h t) (written_by ro h n) r.common)

-- the last of rising operations that pass a test
record LastPassing (p : NumberedAction → Bool) (low : ℕ) (ts : List NumberedAction) (m : ℕ) : Type 0 where
  operation : NumberedAction
  there : Contains ts operation
  number : operation.number ≡ m
  passes : p operation ≡ true
  above : low < m
  greatest : AllByRecursion (λ t. p t ≡ true → t.number ≤ m) ts

none_pass : (p : NumberedAction → Bool) (ts : List NumberedAction) → last_number (filter p ts) ≡ None → AllByRecursion (λ t. p t ≡ false) ts
none_pass p [] e = tt
none_pass p (t ∷ ts) e = go (p t) refl e (none_pass p ts)
  where
    some : (o : Option ℕ) → option_or o (Some t.number) ≡ None → ⊥
    some None e = let bad : Some t.number ≡ None = e in cc
    some (Some m) e = let bad : Some m ≡ None = e in cc

    go : (b : Bool) → p t ≡ b → last_number (cond b (t ∷ filter p ts) (filter p ts)) ≡ None → (last_number (filter p ts) ≡ None → AllByRecursion (λ t. p t ≡ false) ts) → AllByRecursion (λ t. p t ≡ false) (t ∷ ts)
    go true is e ih = absurd (some (last_number (filter p ts)) e)
    go false is e ih = (is, ih e)

all_fail : (p : NumberedAction → Bool) (ts : List NumberedAction) → AllByRecursion (λ t. p t ≡ false) ts → filter p ts ≡ []
all_fail p [] a = refl
all_fail p (t ∷ ts) (is, a) = ap (λ b. cond b (t ∷ filter p ts) (filter p ts)) is ∙ all_fail p ts a

failing : (p : NumberedAction → Bool) (m : ℕ) (ts : List NumberedAction) → AllByRecursion (λ t. p t ≡ false) ts → AllByRecursion (λ t. p t ≡ true → t.number ≤ m) ts
failing p m [] a = tt
failing p m (t ∷ ts) (is, a) = (λ e. absurd (both_ways (p t) is e), failing p m ts a)

last_passing : (p : NumberedAction → Bool) (low m : ℕ) (ts : List NumberedAction) → Rising low ts → last_number (filter p ts) ≡ Some m → LastPassing p low ts m
last_passing p low m [] r e = absurd (let bad : None ≡ Some m = e in cc)
last_passing p low m (t ∷ ts) (l, r) e = go (p t) refl e (last_passing p t.number m ts r) (none_pass p ts)
  where
    later : LastPassing p t.number ts m → LastPassing p low (t ∷ ts) m
    later x =
        let up = x.above in
        record {
          operation = x.operation;
          there = Contains-append_right (t ∷ []) ts x.operation x.there;
          number = x.number;
          passes = x.passes;
          above = omega arith;
          greatest = (λ is. omega arith, x.greatest);
        }

    this : p t ≡ true → t.number ≡ m → AllByRecursion (λ t. p t ≡ false) ts → LastPassing p low (t ∷ ts) m
    this is same none = record {
      operation = t;
      there = Contains-append_left (t ∷ []) ts t (Contains-push [] t);
      number = same;
      passes = is;
      above = omega arith;
      greatest = (λ is. omega arith, failing p m ts none);
    }

    either : p t ≡ true → (o : Option ℕ) → last_number (filter p ts) ≡ o → option_or o (Some t.number) ≡ Some m → (last_number (filter p ts) ≡ Some m → LastPassing p t.number ts m) → (last_number (filter p ts) ≡ None → AllByRecursion (λ t. p t ≡ false) ts) → LastPassing p low (t ∷ ts) m
    either is None last e ih none = this is (let f : Some t.number ≡ Some m = e in let same : t.number ≡ m = cc in same) (none last)
    either is (Some k) last e ih none = later (ih (last ∙ e))

    go : (b : Bool) → p t ≡ b → last_number (cond b (t ∷ filter p ts) (filter p ts)) ≡ Some m → (last_number (filter p ts) ≡ Some m → LastPassing p t.number ts m) → (last_number (filter p ts) ≡ None → AllByRecursion (λ t. p t ≡ false) ts) → LastPassing p low (t ∷ ts) m
    go true is e ih none = either is (last_number (filter p ts)) refl e ih none
    go false is e ih none = later (ih e)

weaken : (ro : Membership) (h : List Entry) (n m : ℕ) (ts : List NumberedAction) → AllByRecursion (λ t. reads_after ro h n t ≡ true → t.number ≤ m) ts → AllByRecursion (λ t. ReadsCellOf ro h n t → t.number ≤ m) ts
weaken ro h n m [] a = tt
weaken ro h n m (t ∷ ts) (first, a) = (λ r. first (from_cells ro h n t r), weaken ro h n m ts a)

pub blocker_reads : (ro : Membership) (h : List Entry) (n m : ℕ) → blocker ro h n ≡ Some m → IsLastReader ro h n m
blocker_reads ro h n m e =
    let x = last_passing (reads_after ro h n) 0 m (live h) (rising_live h) e in
    record {
      reader = x.operation;
      is_live = x.there;
      number = x.number;
      reads = by_cells ro h n x.operation x.passes;
      greatest = All-from_recursion (λ t. ReadsCellOf ro h n t → t.number ≤ m) (live h) (weaken ro h n m (live h) x.greatest);
    }

none_read : (ro : Membership) (h : List Entry) (n : ℕ) (ts : List NumberedAction) → AllByRecursion (λ t. reads_after ro h n t ≡ false) ts → AllByRecursion (λ t. ¬ ReadsCellOf ro h n t) ts
none_read ro h n [] a = tt
none_read ro h n (t ∷ ts) (is, a) = (λ r. both_ways (reads_after ro h n t) is (from_cells ro h n t r), none_read ro h n ts a)

read_none : (ro : Membership) (h : List Entry) (n : ℕ) (ts : List NumberedAction) → AllByRecursion (λ t. ¬ ReadsCellOf ro h n t) ts → AllByRecursion (λ t. reads_after ro h n t ≡ false) ts
read_none ro h n [] a = tt
read_none ro h n (t ∷ ts) (clear, a) = (go (reads_after ro h n t) refl, read_none ro h n ts a)
  where
    go : (b : Bool) → reads_after ro h n t ≡ b → reads_after ro h n t ≡ false
    go false is = is
    go true is = absurd (clear (by_cells ro h n t is))

free_none : (ro : Membership) (h : List Entry) (n : ℕ) → blocker ro h n ≡ None → All (λ t. ¬ ReadsCellOf ro h n t) (live h)
free_none ro h n e = All-from_recursion (λ t. ¬ ReadsCellOf ro h n t) (live h) (none_read ro h n (live h) (none_pass (reads_after ro h n) (live h) e))

-- there is no blocker just where no live operation read a cell that it wrote
pub free_exact : (ro : Membership) (h : List Entry) (n : ℕ) → (blocker ro h n ≡ None) ↔ All (λ t. ¬ ReadsCellOf ro h n t) (live h)
free_exact ro h n = (
  free_none ro h n,
  λ a. ap last_number (all_fail (reads_after ro h n) (live h) (read_none ro h n (live h) (recursion_from_All (λ t. ¬ ReadsCellOf ro h n t) (live h) a))),
)

reader_blocks : (ro : Membership) (h : List Entry) (n m : ℕ) → IsLastReader ro h n m → blocker ro h n ≡ Some m
reader_blocks ro h n m l = go (blocker ro h n) refl
  where
    same : (k : ℕ) → IsLastReader ro h n k → k ≡ m
    same k x =
        let up : x.reader.number ≤ m = All-contains (λ t. ReadsCellOf ro h n t → t.number ≤ m) (live h) x.reader l.greatest x.is_live x.reads in
        let down : l.reader.number ≤ k = All-contains (λ t. ReadsCellOf ro h n t → t.number ≤ k) (live h) l.reader x.greatest l.is_live l.reads in
        let mine = l.number in
        let its = x.number in
        omega arith

    go : (o : Option ℕ) → blocker ro h n ≡ o → blocker ro h n ≡ Some m
    go None is = absurd (All-contains (λ t. ¬ ReadsCellOf ro h n t) (live h) l.reader (free_none ro h n is) l.is_live l.reads)
    go (Some k) is = is ∙ ap Some (same k (blocker_reads ro h n k is))

-- and a blocker is the last that did
pub named_exact : (ro : Membership) (h : List Entry) (n m : ℕ) → (blocker ro h n ≡ Some m) ↔ IsLastReader ro h n m
named_exact ro h n m = (blocker_reads ro h n m, reader_blocks ro h n m)
