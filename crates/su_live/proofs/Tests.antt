-- Tests of numbers and of marks.
use Rattle.std.proofs.Common.{◌≡◌, ℕ, ◌<◌, ◌≤◌, Bool, true, false, not, cond, ◌&&◌, ◌||◌, ◌⊎◌, nat_eq, nat_le, List, [], ◌∷◌, ◌++◌, refl, sym, ◌∙◌, ap, inl, inr, arith}
use Rattle.std.proofs.lemmas.Bool.{eq-eqb, ne_eqb, eqb-true, eqb-false, le-leb, lt-leb}
use Rattle.std.proofs.lemmas.Bool.Decides.{nat_tests}
use Rattle.std.proofs.lemmas.List.Folds.{list_any-append}
use Rattle.std.specs.declared.cmp.Ordering.{Ordering}
use Rattle.std.specs.declared.cmp.Ordering.TheVariants.{Less, Equal, Greater}
use Rattle.std.specs.Ordering.{is_eq, is_le, is_lt, is_gt, nat_cmp, ordering_then}
use Rattle.su_kept_areas.specs.Marks.{has_mark}

-- ---- tests

pub not_so : (b : Bool) → (b ≡ true → ⊥) → b ≡ false
not_so true never = absurd (never refl)
not_so false never = refl

pub or_true : (b : Bool) → (b || true) ≡ true
or_true true = refl
or_true false = refl

pub or_false : (b : Bool) → (b || false) ≡ b
or_false true = refl
or_false false = refl

pub or_swap : (a b : Bool) → (a || b) ≡ (b || a)
or_swap true b = sym (or_true b)
or_swap false b = sym (or_false b)

pub or_regroup : (a b c : Bool) → (a || (b || c)) ≡ ((a || b) || c)
or_regroup true b c = refl
or_regroup false b c = refl

pub and_so : (a b : Bool) → (a && b) ≡ true → (a ≡ true) × (b ≡ true)
and_so true b e = (refl, e)
and_so false b e = absurd (cc)

pub or_none : (a b : Bool) → (a || b) ≡ false → b ≡ false
or_none true b e = absurd (cc)
or_none false b e = e

pub or_cases : (a b : Bool) → (a || b) ≡ true → (a ≡ true) ⊎ (b ≡ true)
or_cases true b e = inl refl
or_cases false b e = inr e

pub nat_eq-flip : (a b : ℕ) → nat_eq a b ≡ nat_eq b a
nat_eq-flip a b = by (nat_eq a b) refl
  where
    by : (t : Bool) → nat_eq a b ≡ t → nat_eq a b ≡ nat_eq b a
    by true e = e ∙ sym (eq-eqb b a (sym (eqb-true a b e)))
    by false e = e ∙ sym (ne_eqb b a (λ same. eqb-false a b e (sym same)))

-- ---- what stays true where a mark goes, or comes

pub goes : (h y d x : Bool) → cond (x && y) false (h && not (y && d)) ≡ (h && not (y && (d || (x || false))))
goes h false d true = refl
goes h false d false = refl
goes true true true true = refl
goes false true true true = refl
goes true true false true = refl
goes false true false true = refl
goes h true true false = refl
goes h true false false = refl

pub comes : (h y d x : Bool) → cond (x && y) true (h || (y && d)) ≡ (h || (y && (d || (x || false))))
comes h false d true = refl
comes h false d false = refl
comes true true true true = refl
comes false true true true = refl
comes true true false true = refl
comes false true false true = refl
comes h true true false = refl
comes h true false false = refl

pub gone_again : (h y d r : Bool) → (y ≡ true → h ≡ false) → ((h || (y && d)) && not (y && (d || r))) ≡ h
gone_again true false d r none = refl
gone_again false false d r none = refl
gone_again true true d r none = absurd (let e : true ≡ false = none refl in cc)
gone_again false true true r none = refl
gone_again false true false r none = refl

pub stays : (h y : Bool) → h ≡ (h && not (y && false))
stays true true = refl
stays true false = refl
stays false y = refl

pub stays_or : (h y : Bool) → h ≡ (h || (y && false))
stays_or true y = refl
stays_or false true = refl
stays_or false false = refl

-- r goes, which was there alone
pub first_goes : (e r : Bool) → (r ≡ true → e ≡ false) → e ≡ ((r || e) && not r)
first_goes true true none = absurd (let e : true ≡ false = none refl in cc)
first_goes false true none = refl
first_goes true false none = refl
first_goes false false none = refl

pub cond_same : (b x y z : Bool) → x ≡ z → y ≡ z → cond b x y ≡ z
cond_same true x y z e f = e
cond_same false x y z e f = f

-- r goes, which a isn't
pub later_goes : (a e r : Bool) → (a ≡ true → r ≡ false) → (a || (e && not r)) ≡ ((a || e) && not r)
later_goes true e true none = absurd (let x : true ≡ false = none refl in cc)
later_goes true e false none = refl
later_goes false e r none = refl

-- ---- marks

pub has_mark-more : (ms : List ℕ) (m q : ℕ) → has_mark (ms ++ m ∷ []) q ≡ (has_mark ms q || (nat_eq q m || false))
has_mark-more ms m q = list_any-append (nat_eq q) ms (m ∷ [])

-- ---- orders

pub less : (a b : ℕ) → nat_cmp a b ≡ Less → a < b
less a b e = grind (arith, nat_tests)

pub equal : (a b : ℕ) → nat_cmp a b ≡ Equal → a ≡ b
equal a b e = grind (arith, nat_tests)

pub greater : (a b : ℕ) → nat_cmp a b ≡ Greater → b < a
greater a b e = grind (arith, nat_tests)

pub same_number : (n q : ℕ) → is_eq (nat_cmp n q) ≡ nat_eq q n
same_number n q = by (nat_cmp n q) refl
  where
    by : (o : Ordering) → nat_cmp n q ≡ o → is_eq o ≡ nat_eq q n
    by Less e = let lt : n < q = less n q e in sym (ne_eqb q n (λ same. absurd (omega arith)))
    by Equal e = sym (eq-eqb q n (sym (equal n q e)))
    by Greater e = let lt : q < n = greater n q e in sym (ne_eqb q n (λ same. absurd (omega arith)))

-- of two pairs, by their parts
pub not_above : (a b c d : ℕ) (o p : Ordering) → nat_cmp a b ≡ o → nat_cmp c d ≡ p → is_gt (ordering_then o p) ≡ false → (a < b) ⊎ ((a ≡ b) × (c ≤ d))
not_above a b c d Less p e f h = inl (less a b e)
not_above a b c d Equal Less e f h = let lt : c < d = less c d f in inr (equal a b e, omega arith)
not_above a b c d Equal Equal e f h = let same : c ≡ d = equal c d f in inr (equal a b e, omega arith)
not_above a b c d Equal Greater e f h = absurd (cc)
not_above a b c d Greater p e f h = absurd (cc)

pub not_below : (a b c d : ℕ) (o p : Ordering) → nat_cmp a b ≡ o → nat_cmp c d ≡ p → is_lt (ordering_then o p) ≡ false → (b < a) ⊎ ((a ≡ b) × (d ≤ c))
not_below a b c d Greater p e f h = inl (greater a b e)
not_below a b c d Equal Greater e f h = let lt : d < c = greater c d f in inr (equal a b e, omega arith)
not_below a b c d Equal Equal e f h = let same : c ≡ d = equal c d f in inr (equal a b e, omega arith)
not_below a b c d Equal Less e f h = absurd (cc)
not_below a b c d Less p e f h = absurd (cc)

pub at_most : (a b c d : ℕ) (o p : Ordering) → nat_cmp a b ≡ o → nat_cmp c d ≡ p → a ≡ b → c ≤ d → is_gt (ordering_then o p) ≡ false
at_most a b c d Less p e f same le = refl
at_most a b c d Equal Less e f same le = refl
at_most a b c d Equal Equal e f same le = refl
at_most a b c d Equal Greater e f same le = let lt : d < c = greater c d f in absurd (omega arith)
at_most a b c d Greater p e f same le = let lt : b < a = greater a b e in absurd (omega arith)

both : (a b x y : Bool) → a ≡ x → b ≡ y → (x && y) ≡ (a && b)
both a b x y e f = sym (ap (λ v. v && b) e ∙ ap (λ v. x && v) f)

pub same_pair : (a b c d : ℕ) (o p : Ordering) → is_eq o ≡ nat_eq a b → is_eq p ≡ nat_eq c d → is_eq (ordering_then o p) ≡ (nat_eq a b && nat_eq c d)
same_pair a b c d Less p e f = ap (λ v. v && nat_eq c d) e
same_pair a b c d Equal p e f = f ∙ ap (λ v. v && nat_eq c d) e
same_pair a b c d Greater p e f = ap (λ v. v && nat_eq c d) e

-- ---- what stays true where two footprints are of one operation

-- a mark that the other has too stays, and each other goes
pub mark_stays : (h y d x b : Bool) → (x ≡ true → b ≡ true) → (h && not (y && (d && not b))) ≡ (h && not (y && ((d || (x || false)) && not b)))
mark_stays h false d x b has = refl
mark_stays h true true x b has = refl
mark_stays h true false false b has = refl
mark_stays h true false true true has = refl
mark_stays h true false true false has = absurd (let e : false ≡ true = has refl in cc)

pub mark_goes : (h y d x b : Bool) → (x ≡ true → b ≡ false) → cond (x && y) false (h && not (y && (d && not b))) ≡ (h && not (y && ((d || (x || false)) && not b)))
mark_goes h false d true b has = refl
mark_goes h false d false b has = refl
mark_goes h true true false b has = refl
mark_goes h true false false b has = refl
mark_goes h true d true true has = absurd (let e : true ≡ false = has refl in cc)
mark_goes true true true true false has = refl
mark_goes false true true true false has = refl
mark_goes true true false true false has = refl
mark_goes false true false true false has = refl

pub stays_but : (h y b : Bool) → h ≡ (h && not (y && (false && not b)))
stays_but true true b = refl
stays_but true false b = refl
stays_but false y b = refl

-- marks that came beside those of a footprint go again
pub gone_but : (h y a d r : Bool) → (y ≡ true → h ≡ a) → ((h || (y && d)) && not (y && ((d || r) && not a))) ≡ h
gone_but true false a d r same = refl
gone_but false false a d r same = refl
gone_but true true true d r same = by_rest (d || r)
  where
    by_rest : (x : Bool) → not (x && false) ≡ true
    by_rest true = refl
    by_rest false = refl
gone_but true true false d r same = absurd (let e : true ≡ false = same refl in cc)
gone_but false true true d r same = absurd (let e : false ≡ true = same refl in cc)
gone_but false true false true r same = refl
gone_but false true false false r same = refl

-- of a footprint in the place of another
pub put_beside : (e y a b : Bool) → ((e || (y && b)) && not (y && (a && not b))) ≡ ((e && not (y && a)) || (y && b))
put_beside true false a b = refl
put_beside false false a b = refl
put_beside true true true true = refl
put_beside true true true false = refl
put_beside true true false true = refl
put_beside true true false false = refl
put_beside false true true true = refl
put_beside false true true false = refl
put_beside false true false true = refl
put_beside false true false false = refl

-- ---- what stays true where only those above a number are entered

-- r comes to those that c holds of, where it is that d does
pub comes_above : (c e d r : Bool) → (r ≡ true → c ≡ d) → ((c && e) || (d && r)) ≡ (c && (e || r))
comes_above true e true r same = refl
comes_above true e false true same = absurd (let x : true ≡ false = same refl in cc)
comes_above true e false false same = refl
comes_above false e true true same = absurd (let x : false ≡ true = same refl in cc)
comes_above false e true false same = refl
comes_above false e false r same = refl

pub goes_above : (c e r : Bool) → ((c && e) && not r) ≡ (c && (e && not r))
goes_above true e r = refl
goes_above false e r = refl

-- a goes, and b comes
pub put_over : (c e d a b : Bool) → (a ≡ true → c ≡ d) → (b ≡ true → c ≡ d) → (((c && e) && not (d && a)) || (d && b)) ≡ (c && ((e && not a) || b))
put_over true e true a b same also = refl
put_over true e false true b same also = absurd (let x : true ≡ false = same refl in cc)
put_over true e false false true same also = absurd (let x : true ≡ false = also refl in cc)
put_over true e false false false same also = refl
put_over false e true true b same also = absurd (let x : false ≡ true = same refl in cc)
put_over false e true false true same also = absurd (let x : false ≡ true = also refl in cc)
put_over false e true false false same also = refl
put_over false e false a b same also = refl

-- r may have come, which wasn't there, and goes
pub came_goes_above : (h d r : Bool) → (r ≡ true → h ≡ false) → ((h || (d && r)) && not r) ≡ h
came_goes_above true d true none = absurd (let e : true ≡ false = none refl in cc)
came_goes_above false true true none = refl
came_goes_above false false true none = refl
came_goes_above true d false none = refl
came_goes_above false true false none = refl
came_goes_above false false false none = refl

pub stays_put : (h : Bool) → h ≡ ((h && true) || false)
stays_put true = refl
stays_put false = refl

pub and_none : (c e : Bool) → (c ≡ true → e ≡ false) → (c && e) ≡ false
and_none true e none = none refl
and_none false e none = refl

-- a number from n on
pub from_test : (n q : ℕ) → (is_le (nat_cmp n q) && true) ≡ nat_le n q
from_test n q = by (nat_cmp n q) refl
  where
    by : (o : Ordering) → nat_cmp n q ≡ o → (is_le o && true) ≡ nat_le n q
    by Less e = let lt : n < q = less n q e in sym (le-leb n q (omega arith))
    by Equal e = let same : n ≡ q = equal n q e in sym (le-leb n q (omega arith))
    by Greater e = sym (lt-leb n q (greater n q e))

-- a number up to n
pub up_to_test : (q n : ℕ) → q ≤ n → is_gt (nat_cmp q n) ≡ false
up_to_test q n le = by (nat_cmp q n) refl
  where
    by : (o : Ordering) → nat_cmp q n ≡ o → is_gt o ≡ false
    by Less e = refl
    by Equal e = refl
    by Greater e = let lt : n < q = greater q n e in absurd (omega arith)
