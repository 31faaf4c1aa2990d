-- The numbers of the lines of a history, and which lines are live.
use Rattle.std.proofs.Common.{◌≡◌, ◌∙◌, ◌↔◌, ℕ, zero, suc, ◌+◌, ◌-◌, ◌<◌, ◌≤◌, ◌&&◌, ◌||◌, Bool, true, false, not, cond, List, [], ◌∷◌, ◌++◌, length, map, nat_eq, Option, Some, None, ◌⊎◌, inl, inr, ⊎_elim, refl, sym, ap, subst, arith}
use Rattle.std.specs.Prelude.{All, Contains}
use Rattle.std.specs.List.{filter, flat_map, range_with_len}
use Rattle.std.specs.Option.{is_some}
use Rattle.std.proofs.Math.Bool.{beq}
use Rattle.std.proofs.lemmas.Bool.{and_parts, cases_lt}
use Rattle.std.proofs.lemmas.List.{map-append}
use Rattle.std.proofs.lemmas.List.Elements.{All-nil, All-cons, All-weaker, Contains-append_cases, Contains-append_left, Contains-append_right, filter-append}
use Rattle.su_bytes.specs.declared.file_ids.FileId.{FileId}
use Rattle.su_op.specs.declared.operations.Op.{Op}
use Rattle.su_op.specs.declared.operations.Change.{Change}
use Rattle.su_op.specs.declared.operations.Change.TheVariants.{Do, Undo, Rekey}
use Rattle.su_desk.specs.declared.entries.Entry.{Entry}
use Rattle.su_desk.specs.History.{NumberedAction, action_of, is_undone, live_numbers, operation_by_change, operation_of, operations_from, undoer, undoer_from, undoes}
use Rattle.su_history.specs.declared.line.Line.{Line}
use Rattle.su_history.specs.declared.line.Fate.TheVariants.{Live}
use Rattle.su_history.specs.Line.{NumberedEntry, Run, are_one, edited, fate_of, filled, goes_on, is_same_file, last_of, line_of, lines, numbered_from, numbers, runs, with_first}

then_also : {A B C : Type 0} → A ↔ B → B ↔ C → A ↔ C
then_also f g = (λ a. g.0 (f.0 a), λ c. f.1 (g.1 c))

turned : {A B : Type 0} → A ↔ B → B ↔ A
turned f = (f.1, f.0)

-- ---- live operations, of entries from a number on

abbrev still : List Entry → NumberedAction → Bool
still h t = not (is_undone h t.number)

abbrev live_in : List Entry → List NumberedAction → List ℕ
live_in h ts = map (λ (t : NumberedAction). t.number) (filter (still h) ts)

abbrev live_from : List Entry → ℕ → List Entry → List ℕ
live_from h n es = live_in h (operations_from n es)

live_split : (h : List Entry) (n : ℕ) (e : Entry) (es : List Entry) → live_from h n (e ∷ es) ≡ live_in h (operation_of n e) ++ live_from h (n + 1) es
live_split h n e es =
    ap (map (λ (t : NumberedAction). t.number)) (filter-append (still h) (operation_of n e) (operations_from (n + 1) es))
    ∙ map-append (λ (t : NumberedAction). t.number) (filter (still h) (operation_of n e)) (filter (still h) (operations_from (n + 1) es))

none_in : (n : ℕ) → Contains {X = ℕ} [] n → ⊥
none_in n (k, lt, is) = omega (arith, lt)

only_in : (m n : ℕ) → Contains (m ∷ []) n → n ≡ m
only_in m n (zero, lt, is) = sym is
only_in m n (suc k, lt, is) = absurd (omega (arith, lt))

-- the operation of an entry has its number
own_number : (h : List Entry) (n : ℕ) (e : Entry) (c : Change) (m : ℕ) → Contains (live_in h (operation_by_change n e c)) m → m ≡ n
own_number h n e (Undo k) m has = absurd (none_in m has)
own_number h n e (Rekey k) m has = absurd (none_in m has)
own_number h n e (Do ops) m has = go (not (is_undone h n)) has
  where
    go : (b : Bool) → Contains (map (λ (t : NumberedAction). t.number) (cond b (record { number = n; action = record { author = e.author; format = e.format; operations = ops } } ∷ []) [])) m → m ≡ n
    go true has = only_in n m has
    go false has = absurd (none_in m has)

from_on : (h : List Entry) (n : ℕ) (es : List Entry) (m : ℕ) → Contains (live_from h n es) m → n ≤ m
from_on h n [] m has = absurd (none_in m has)
from_on h n (e ∷ es) m has =
    ⊎_elim (λ own. let same = own_number h n e e.change m own in omega (arith, same)) (λ rest. let least = from_on h (n + 1) es m rest in omega (arith, least))
    (Contains-append_cases (live_in h (operation_of n e)) (live_from h (n + 1) es) m (subst (λ ns. Contains ns m) (live_split h n e es) has))

-- behind the first entry its operation doesn't count
behind_first : (h : List Entry) (n : ℕ) (e : Entry) (es : List Entry) (m : ℕ) → n + 1 ≤ m → Contains (live_from h (n + 1) es) m ↔ Contains (live_from h n (e ∷ es)) m
behind_first h n e es m behind = (
  λ has. subst (λ ns. Contains ns m) (sym (live_split h n e es)) (Contains-append_right (live_in h (operation_of n e)) (live_from h (n + 1) es) m has),
  λ has. ⊎_elim (λ own. absurd (let same = own_number h n e e.change m own in omega (arith, same, behind))) (λ rest. rest)
      (Contains-append_cases (live_in h (operation_of n e)) (live_from h (n + 1) es) m (subst (λ ns. Contains ns m) (live_split h n e es) has)),
)

undone_by_one : (k : ℕ) (h : List Entry) (n : ℕ) → is_undone h n ≡ is_some (undoer_from k h n)
undone_by_one k [] n = refl
undone_by_one k (x ∷ h) n = go (undoes n x.change) (undone_by_one (k + 1) h n)
  where
    go : (b : Bool) → is_undone h n ≡ is_some (undoer_from (k + 1) h n) → (b || is_undone h n) ≡ is_some (cond b (Some k) (undoer_from (k + 1) h n))
    go true rest = refl
    go false rest = rest

-- the number of a batch, if that is to be there
abbrev if_there : ℕ → Entry → List Op → Bool → List ℕ
if_there n e ops b = map (λ (t : NumberedAction). t.number) (cond b (record { number = n; action = action_of e ops } ∷ []) [])

own_live : (h : List Entry) (n : ℕ) (e : Entry) (c : Change) (o : Option ℕ) → is_undone h n ≡ is_some o → (fate_of c o ≡ Live) ↔ Contains (live_in h (operation_by_change n e c)) n
own_live h n e (Undo k) o is = (λ bad. absurd cc, λ has. absurd (none_in n has))
own_live h n e (Rekey k) o is = (λ bad. absurd cc, λ has. absurd (none_in n has))
own_live h n e (Do ops) None is = (
  λ same. subst (λ b. Contains (if_there n e ops b) n) (sym (ap not is)) (0, omega arith, refl),
  λ has. refl,
)
own_live h n e (Do ops) (Some by) is = (
  λ bad. absurd cc,
  λ has. absurd (none_in n (subst (λ b. Contains (if_there n e ops b) n) (ap not is) has)),
)

-- the first entry is live where its operation is
first_live : (h : List Entry) (n : ℕ) (e : Entry) (es : List Entry) → (fate_of e.change (undoer h n) ≡ Live) ↔ Contains (live_from h n (e ∷ es)) n
first_live h n e es = (
  λ live. subst (λ ns. Contains ns n) (sym (live_split h n e es)) (Contains-append_left (live_in h (operation_of n e)) (live_from h (n + 1) es) n (own.0 live)),
  λ has. ⊎_elim (λ mine. own.1 mine) (λ rest. absurd (let least = from_on h (n + 1) es n rest in omega (arith, least)))
      (Contains-append_cases (live_in h (operation_of n e)) (live_from h (n + 1) es) n (subst (λ ns. Contains ns n) (live_split h n e es) has)),
)
  where
    own : (fate_of e.change (undoer h n) ≡ Live) ↔ Contains (live_in h (operation_of n e)) n
    own = own_live h n e e.change (undoer h n) (undone_by_one 1 h n)

-- ---- which go on

abbrev is_do : Change → Bool
is_do (Do ops) = true
is_do _ = false

edited_do : (c : Change) (f : FileId) → edited c ≡ Some f → is_do c ≡ true
edited_do (Do ops) f is = refl
edited_do (Undo n) f is = absurd (let bad : None ≡ Some f = is in cc)
edited_do (Rekey k) f is = absurd (let bad : None ≡ Some f = is in cc)

filled_do : (c : Change) (f : FileId) → filled c ≡ Some f → is_do c ≡ true
filled_do (Do ops) f is = refl
filled_do (Undo n) f is = absurd (let bad : None ≡ Some f = is in cc)
filled_do (Rekey k) f is = absurd (let bad : None ≡ Some f = is in cc)

both_do : (c d : Change) → is_same_file c d ≡ true → (is_do c ≡ true) × (is_do d ≡ true)
both_do c d is = go (filled c) refl (edited d) refl is
  where
    go : (a : Option FileId) → filled c ≡ a → (b : Option FileId) → edited d ≡ b → are_one a b ≡ true → (is_do c ≡ true) × (is_do d ≡ true)
    go None a_is b b_is is = absurd (let bad : false ≡ true = is in cc)
    go (Some f) a_is None b_is is = absurd (let bad : false ≡ true = is in cc)
    go (Some f) a_is (Some g) b_is is = (filled_do c f a_is, edited_do d g b_is)

fate_do : (c : Change) (o : Option ℕ) → is_do c ≡ true → (fate_of c o ≡ Live) ↔ (is_some o ≡ false)
fate_do (Undo n) o is = absurd (let bad : false ≡ true = is in cc)
fate_do (Rekey k) o is = absurd (let bad : false ≡ true = is in cc)
fate_do (Do ops) None is = (λ _. refl, λ _. refl)
fate_do (Do ops) (Some n) is = (λ bad. absurd cc, λ bad. absurd cc)

same_bool : (a b : Bool) → beq a b ≡ true → a ≡ b
same_bool true true is = refl
same_bool false false is = refl
same_bool true false is = absurd (let bad : false ≡ true = is in cc)
same_bool false true is = absurd (let bad : false ≡ true = is in cc)

-- of two that go on, both are live or neither is
same_fate : (e next : NumberedEntry) → goes_on e next ≡ true → (fate_of e.entry.change e.undoer ≡ Live) ↔ (fate_of next.entry.change next.undoer ≡ Live)
same_fate e next is =
    let parts = and_parts (nat_eq e.entry.author next.entry.author && is_same_file e.entry.change next.entry.change) (beq (is_some e.undoer) (is_some next.undoer)) is in
    let files = (and_parts (nat_eq e.entry.author next.entry.author) (is_same_file e.entry.change next.entry.change) parts.0).1 in
    let ops = both_do e.entry.change next.entry.change files in
    let same = same_bool (is_some e.undoer) (is_some next.undoer) parts.1 in
    let one = fate_do e.entry.change e.undoer ops.0 in
    let other = fate_do next.entry.change next.undoer ops.1 in (
      λ live. other.1 (sym same ∙ one.0 live),
      λ live. one.1 (same ∙ other.0 live),
    )

-- ---- how the first run begins

record Begins (h : List Entry) (n : ℕ) (es : List Entry) (r : Run) : Type 0 where
  first : r.first.number ≡ n
  last : n ≤ (last_of r.first r.others).number
  told : (fate_of r.first.entry.change r.first.undoer ≡ Live) ↔ Contains (live_from h n es) n

abbrev RunsBegin : List Entry → ℕ → List Entry → List Run → Type 0
RunsBegin h n es [] = Unit {0}
RunsBegin h n es (r ∷ rs) = Begins h n es r

abbrev numbered_one : List Entry → ℕ → Entry → NumberedEntry
numbered_one h n e = record { number = n; entry = e; undoer = undoer h n }

abbrev run : NumberedEntry → List NumberedEntry → Run
run e es = record { first = e; others = es }

runs_begin : (h : List Entry) (n : ℕ) (es : List Entry) → RunsBegin h n es (runs (numbered_from h n es))
runs_begin h n [] = tt
runs_begin h n (e ∷ es) = go (runs (numbered_from h (n + 1) es)) (runs_begin h (n + 1) es)
  where
    go : (rs : List Run) → RunsBegin h (n + 1) es rs → RunsBegin h n (e ∷ es) (with_first (numbered_one h n e) rs)
    go [] begins = record { first = refl; last = omega arith; told = first_live h n e es }
    go (r ∷ rs) begins = pick (goes_on (numbered_one h n e) r.first)
      where
        pick : (b : Bool) → RunsBegin h n (e ∷ es) (cond b (run (numbered_one h n e) (r.first ∷ r.others) ∷ rs) (run (numbered_one h n e) [] ∷ r ∷ rs))
        pick true = record { first = refl; last = (let l = begins.last in omega (arith, l)); told = first_live h n e es }
        pick false = record { first = refl; last = omega arith; told = first_live h n e es }

-- ---- the numbers of all lines

abbrev numbers_in : List Run → List ℕ
numbers_in rs = flat_map numbers (map line_of rs)

with_numbers : (h : List Entry) (n : ℕ) (e : Entry) (es : List Entry) (rs : List Run) → RunsBegin h (n + 1) es rs → numbers_in (with_first (numbered_one h n e) rs) ≡ n ∷ numbers_in rs
with_numbers h n e es [] begins = let one : n + 1 - n ≡ 1 = omega arith in ap (λ k. range_with_len n k ++ []) one
with_numbers h n e es (r ∷ rs) begins = pick (goes_on (numbered_one h n e) r.first)
  where
    pick : (b : Bool) → numbers_in (cond b (run (numbered_one h n e) (r.first ∷ r.others) ∷ rs) (run (numbered_one h n e) [] ∷ r ∷ rs)) ≡ n ∷ numbers_in (r ∷ rs)
    pick true =
        let least = begins.last in
        let count : (last_of r.first r.others).number + 1 - n ≡ suc ((last_of r.first r.others).number + 1 - (n + 1)) = omega (arith, least) in
        ap (λ k. range_with_len n k ++ numbers_in rs) count
        ∙ ap (λ m. n ∷ (range_with_len m ((last_of r.first r.others).number + 1 - m) ++ numbers_in rs)) (sym begins.first)
    pick false = let one : n + 1 - n ≡ 1 = omega arith in ap (λ k. range_with_len n k ++ numbers_in (r ∷ rs)) one

numbers_from : (h : List Entry) (n : ℕ) (es : List Entry) → numbers_in (runs (numbered_from h n es)) ≡ range_with_len n (length es)
numbers_from h n [] = refl
numbers_from h n (e ∷ es) = with_numbers h n e es (runs (numbered_from h (n + 1) es)) (runs_begin h (n + 1) es) ∙ ap (λ ns. n ∷ ns) (numbers_from h (n + 1) es)

pub all_numbers : (h : List Entry) → flat_map numbers (lines h) ≡ range_with_len 1 (length h)
all_numbers h = numbers_from h 1 h

-- ---- which lines are live

record IsTold (h : List Entry) (n : ℕ) (es : List Entry) (l : Line) : Type 0 where
  behind : n ≤ l.first
  live : (m : ℕ) → l.first ≤ m → m ≤ l.last → (l.fate ≡ Live) ↔ Contains (live_from h n es) m

told_still : (h : List Entry) (n : ℕ) (e : Entry) (es : List Entry) (l : Line) → IsTold h (n + 1) es l → IsTold h n (e ∷ es) l
told_still h n e es l told = record {
  behind = (let b = told.behind in omega (arith, b));
  live = λ m low high. then_also (told.live m low high) (behind_first h n e es m (let b = told.behind in omega (arith, b, low)));
}

told_alone : (h : List Entry) (n : ℕ) (e : Entry) (es : List Entry) → IsTold h n (e ∷ es) (line_of (run (numbered_one h n e) []))
told_alone h n e es = record {
  behind = omega arith;
  live = λ m low high. subst (λ k. (fate_of e.change (undoer h n) ≡ Live) ↔ Contains (live_from h n (e ∷ es)) k) (omega (arith, low, high)) (first_live h n e es);
}

told_joined : (h : List Entry) (n : ℕ) (e : Entry) (es : List Entry) (r : Run) → Begins h (n + 1) es r → IsTold h (n + 1) es (line_of r) → goes_on (numbered_one h n e) r.first ≡ true
    → IsTold h n (e ∷ es) (line_of (run (numbered_one h n e) (r.first ∷ r.others)))
told_joined h n e es r begins told on = record {
  behind = omega arith;
  live = λ m low high. go m low high (cases_lt n m);
}
  where
    first : ((line_of r).fate ≡ Live) ↔ Contains (live_from h n (e ∷ es)) n
    first =
        let f = begins.first in
        let l = begins.last in
        then_also (told.live (n + 1) (omega (arith, f)) l)
        (then_also (turned begins.told) (then_also (turned (same_fate (numbered_one h n e) r.first on)) (first_live h n e es)))

    go : (m : ℕ) → n ≤ m → m ≤ (line_of r).last → (n < m) ⊎ (m ≤ n) → ((line_of r).fate ≡ Live) ↔ Contains (live_from h n (e ∷ es)) m
    go m low high (inl behind) =
        let f = begins.first in
        then_also (told.live m (omega (arith, f, behind)) high) (behind_first h n e es m (omega (arith, behind)))
    go m low high (inr same) = subst (λ k. ((line_of r).fate ≡ Live) ↔ Contains (live_from h n (e ∷ es)) k) (omega (arith, low, same)) first

told_from : (h : List Entry) (n : ℕ) (es : List Entry) → All (IsTold h n es) (map line_of (runs (numbered_from h n es)))
told_from h n [] = All-nil (IsTold h n [])
told_from h n (e ∷ es) = go (runs (numbered_from h (n + 1) es)) (runs_begin h (n + 1) es) (told_from h (n + 1) es)
  where
    go : (rs : List Run) → RunsBegin h (n + 1) es rs → All (IsTold h (n + 1) es) (map line_of rs) → All (IsTold h n (e ∷ es)) (map line_of (with_first (numbered_one h n e) rs))
    go [] begins all = All-cons (IsTold h n (e ∷ es)) (line_of (run (numbered_one h n e) [])) [] (told_alone h n e es) (All-nil (IsTold h n (e ∷ es)))
    go (r ∷ rs) begins all = pick (goes_on (numbered_one h n e) r.first) refl
      where
        behind : All (IsTold h (n + 1) es) (map line_of rs)
        behind = λ k d lt. all (suc k) d (omega (arith, lt))

        pick : (b : Bool) → goes_on (numbered_one h n e) r.first ≡ b → All (IsTold h n (e ∷ es)) (map line_of (cond b (run (numbered_one h n e) (r.first ∷ r.others) ∷ rs) (run (numbered_one h n e) [] ∷ r ∷ rs)))
        pick true on =
            All-cons (IsTold h n (e ∷ es)) (line_of (run (numbered_one h n e) (r.first ∷ r.others))) (map line_of rs) (told_joined h n e es r begins (all zero (line_of r) (omega arith)) on)
            (All-weaker (IsTold h (n + 1) es) (IsTold h n (e ∷ es)) (told_still h n e es) (map line_of rs) behind)
        pick false off =
            All-cons (IsTold h n (e ∷ es)) (line_of (run (numbered_one h n e) [])) (line_of r ∷ map line_of rs) (told_alone h n e es)
            (All-weaker (IsTold h (n + 1) es) (IsTold h n (e ∷ es)) (told_still h n e es) (line_of r ∷ map line_of rs) all)

pub all_told : (h : List Entry) → All (λ (l : Line). (m : ℕ) → l.first ≤ m → m ≤ l.last → (l.fate ≡ Live) ↔ Contains (live_numbers h) m) (lines h)
all_told h =
    All-weaker (IsTold h 1 h) (λ (l : Line). (m : ℕ) → l.first ≤ m → m ≤ l.last → (l.fate ≡ Live) ↔ Contains (live_numbers h) m) (λ l told. told.live) (lines h) (told_from h 1 h)
