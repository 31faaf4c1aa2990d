-- The first run of entries, and those behind it.
use Rattle.std.proofs.Common.{◌≡◌, ◌∙◌, ℕ, zero, suc, ◌+◌, ◌-◌, ◌<◌, ◌≤◌, Bool, true, false, cond, List, [], ◌∷◌, ◌++◌, length, map, drop, get_or, slice_range, ◌⊎◌, inl, inr, refl, sym, ap, subst, arith}
use Rattle.std.proofs.lemmas.List.{append_assoc, get_or-drop, length-take, length-drop}
use Rattle.std.proofs.lemmas.List.Folds.{drop_split}
use Rattle.su_desk.specs.declared.entries.Entry.{Entry}
use Rattle.su_history.specs.declared.line.Line.{Line}
use Rattle.su_history.specs.Line.{NumberedEntry, Run, goes_on, last_of, line_of, numbered, runs, with_first}
use Rattle.su_history.proofs.NumberedEntries.{at_between, length_numbered}

-- ---- runs in front of others

-- each goes on with the one before it
abbrev GoOn : NumberedEntry → List NumberedEntry → Type 0
GoOn e [] = Unit {0}
GoOn e (next ∷ es) = (goes_on e next ≡ true) × GoOn next es

-- what is behind e doesn't go on with it
abbrev Stops : NumberedEntry → List NumberedEntry → Type 0
Stops e [] = Unit {0}
Stops e (next ∷ es) = goes_on e next ≡ false

abbrev run : NumberedEntry → List NumberedEntry → Run
run e es = record { first = e; others = es }

alone : (e next : NumberedEntry) (rs : List Run) → goes_on e next ≡ false → with_first e (with_first next rs) ≡ run e [] ∷ with_first next rs
alone e next [] is = ap (λ b. cond b (run e (next ∷ []) ∷ []) (run e [] ∷ run next [] ∷ [])) is
alone e next (r ∷ rs) is = go (goes_on next r.first)
  where
    go : (b : Bool) → with_first e (cond b (run next (r.first ∷ r.others) ∷ rs) (run next [] ∷ r ∷ rs)) ≡ run e [] ∷ cond b (run next (r.first ∷ r.others) ∷ rs) (run next [] ∷ r ∷ rs)
    go true = ap (λ b. cond b (run e (next ∷ r.first ∷ r.others) ∷ rs) (run e [] ∷ run next (r.first ∷ r.others) ∷ rs)) is
    go false = ap (λ b. cond b (run e (next ∷ []) ∷ r ∷ rs) (run e [] ∷ run next [] ∷ r ∷ rs)) is

runs_front : (e : NumberedEntry) (es rest : List NumberedEntry) → GoOn e es → Stops (last_of e es) rest → runs (e ∷ (es ++ rest)) ≡ run e es ∷ runs rest
runs_front e [] [] on stops = refl
runs_front e [] (next ∷ rest) on stops = alone e next (runs rest) stops
runs_front e (next ∷ es) rest on stops =
    ap (with_first e) (runs_front next es rest on.1 stops)
    ∙ ap (λ b. cond b (run e (next ∷ es) ∷ runs rest) (run e [] ∷ run next es ∷ runs rest)) on.0

-- ---- by index

-- those of the index from a to b go on, each with the one before it
abbrev pub GoOnBetween : List NumberedEntry → ℕ → ℕ → Type 0
GoOnBetween es a b = (i : ℕ) (d : NumberedEntry) → a < i → i < b → goes_on (get_or es (i - 1) d) (get_or es i d) ≡ true

-- and that of index b doesn't
abbrev pub StopsAt : List NumberedEntry → ℕ → ℕ → Type 0
StopsAt es b count = (d : NumberedEntry) → (b ≡ count) ⊎ (goes_on (get_or es (b - 1) d) (get_or es b d) ≡ false)

go_on : (e : NumberedEntry) (es : List NumberedEntry) → ((i : ℕ) (d : NumberedEntry) → i < length es → goes_on (get_or (e ∷ es) i d) (get_or (e ∷ es) (suc i) d) ≡ true) → GoOn e es
go_on e [] all = tt
go_on e (next ∷ es) all = (all zero e (omega arith), go_on next es (λ i d lt. all (suc i) d (omega (arith, lt))))

pub last_at : (e : NumberedEntry) (es : List NumberedEntry) (d : NumberedEntry) → get_or (e ∷ es) (length es) d ≡ last_of e es
last_at e [] d = refl
last_at e (next ∷ es) d = last_at next es d

pub length_between : {X : Type 0} (xs : List X) (a b : ℕ) → a ≤ b → b ≤ length xs → length (slice_range xs a b) ≡ b - a
length_between xs a b low high =
    let t = length-take (b - a) (drop a xs) in
    let d = length-drop a xs in
    omega (arith, t, d, low, high)

run_goes_on : (all : List NumberedEntry) (a b : ℕ) (e : NumberedEntry) (es : List NumberedEntry) → slice_range all a b ≡ e ∷ es → a < b → b ≤ length all → GoOnBetween all a b → GoOn e es
run_goes_on all a b e es is low high on = go_on e es each
  where
    many : suc (length es) ≡ b - a
    many = ap length (sym is) ∙ length_between all a b (omega (arith, low)) high

    each : (i : ℕ) (d : NumberedEntry) → i < length es → goes_on (get_or (e ∷ es) i d) (get_or (e ∷ es) (suc i) d) ≡ true
    each i d lt =
        let m = many in
        let index : a + i ≡ a + suc i - 1 = omega arith in
        ap (λ xs. goes_on (get_or xs i d) (get_or xs (suc i) d)) (sym is)
        ∙ ap (λ x. goes_on x (get_or (slice_range all a b) (suc i) d)) (at_between all a b i d (omega (arith, lt, m)))
        ∙ ap (goes_on (get_or all (a + i) d)) (at_between all a b (suc i) d (omega (arith, lt, m)))
        ∙ ap (λ k. goes_on (get_or all k d) (get_or all (a + suc i) d)) index
        ∙ on (a + suc i) d (omega arith) (omega (arith, lt, m))

pub last_between : (all : List NumberedEntry) (a b : ℕ) (e : NumberedEntry) (es : List NumberedEntry) (d : NumberedEntry) → slice_range all a b ≡ e ∷ es → a < b → b ≤ length all → get_or all (b - 1) d ≡ last_of e es
last_between all a b e es d is low high =
    let many : suc (length es) ≡ b - a = ap length (sym is) ∙ length_between all a b (omega (arith, low)) high in
    let index : b - 1 ≡ a + length es = omega (arith, many, low) in
    ap (λ k. get_or all k d) index
    ∙ sym (at_between all a b (length es) d (omega (arith, many)))
    ∙ ap (λ xs. get_or xs (length es) d) is
    ∙ last_at e es d

pub first_between : (all : List NumberedEntry) (a b : ℕ) (e : NumberedEntry) (es : List NumberedEntry) (d : NumberedEntry) → slice_range all a b ≡ e ∷ es → a < b → get_or all a d ≡ e
first_between all a b e es d is low =
    let index : a ≡ a + 0 = omega arith in
    ap (λ k. get_or all k d) index
    ∙ sym (at_between all a b 0 d (omega (arith, low)))
    ∙ ap (λ xs. get_or xs 0 d) is

run_stops : (all : List NumberedEntry) (b : ℕ) (e : NumberedEntry) → get_or all (b - 1) e ≡ e → StopsAt all b (length all) → Stops e (drop b all)
run_stops all b e last stops = go (drop b all) refl
  where
    go : (rest : List NumberedEntry) → drop b all ≡ rest → Stops e rest
    go [] is = tt
    go (next ∷ rest) is = pick (stops e)
      where
        there : get_or all b e ≡ next
        there =
            let index : b ≡ b + 0 = omega arith in
            ap (λ k. get_or all k e) index ∙ sym (get_or-drop b all 0 e) ∙ ap (λ xs. get_or xs 0 e) is

        pick : (b ≡ length all) ⊎ (goes_on (get_or all (b - 1) e) (get_or all b e) ≡ false) → goes_on e next ≡ false
        pick (inl end) =
            let count = length-drop b all in
            let some : length (drop b all) ≡ suc (length rest) = ap length is in
            absurd (omega (arith, count, some, end))
        pick (inr off) = ap (λ x. goes_on x next) (sym last) ∙ ap (goes_on (get_or all (b - 1) e)) (sym there) ∙ off

-- the run from a to b is the first of those from a on
runs_from : (all : List NumberedEntry) (a b : ℕ) (e : NumberedEntry) (es : List NumberedEntry) → slice_range all a b ≡ e ∷ es → a < b → b ≤ length all → GoOnBetween all a b → StopsAt all b (length all)
    → runs (drop a all) ≡ run e es ∷ runs (drop b all)
runs_from all a b e es is low high on stops =
    ap runs (drop_split all a b (omega (arith, low)) ∙ ap (λ xs. xs ++ drop b all) is)
    ∙ runs_front e es (drop b all) (run_goes_on all a b e es is low high on)
    (run_stops all b (last_of e es) (last_between all a b e es (last_of e es) is low high) stops)

-- ---- the lines so far

-- with the line of the next run
pub one_line_more : (h : List Entry) (a b : ℕ) (done : List Line) (line : Line) → a < b → b ≤ length h → GoOnBetween (numbered h) a b → StopsAt (numbered h) b (length h)
    → ((e : NumberedEntry) (es : List NumberedEntry) → slice_range (numbered h) a b ≡ e ∷ es → line ≡ line_of (record { first = e; others = es }))
    → map line_of (runs (numbered h)) ≡ done ++ map line_of (runs (drop a (numbered h)))
    → map line_of (runs (numbered h)) ≡ (done ++ line ∷ []) ++ map line_of (runs (drop b (numbered h)))
one_line_more h a b done line low high on stops told before = go (slice_range (numbered h) a b) refl
  where
    within : b ≤ length (numbered h)
    within = let c = length_numbered h in omega (arith, c, high)

    go : (xs : List NumberedEntry) → slice_range (numbered h) a b ≡ xs → map line_of (runs (numbered h)) ≡ (done ++ line ∷ []) ++ map line_of (runs (drop b (numbered h)))
    go [] is =
        let none : 0 ≡ b - a = ap length (sym is) ∙ length_between (numbered h) a b (omega (arith, low)) within in
        absurd (omega (arith, none, low))
    go (e ∷ es) is =
        before
        ∙ ap (λ rs. done ++ map line_of rs) (runs_from (numbered h) a b e es is low within on (subst (λ n. StopsAt (numbered h) b n) (sym (length_numbered h)) stops))
        ∙ ap (λ l. done ++ l ∷ map line_of (runs (drop b (numbered h)))) (sym (told e es is))
        ∙ sym (append_assoc done (line ∷ []) (map line_of (runs (drop b (numbered h)))))
