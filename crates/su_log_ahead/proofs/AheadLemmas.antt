-- A log of which records are read ahead.
use Rattle.std.proofs.Common.{◌≡◌, ℕ, suc, ◌+◌, List, [], ◌∷◌, ◌++◌, map, length, take, ◌≤◌, refl, sym, ap, ◌∙◌, subst, arith, Option, Some, None}
use Rattle.std.specs.Prelude.{Ok}
use Rattle.std.specs.List.{AllByRecursion}
use Rattle.std.proofs.lemmas.List.{take-append-le, take_all}
use Rattle.su_log.specs.Log.{LogRecord, record_bytes}
use Rattle.su_log.specs.Record.{spelled, IsRead, IsExamined, BeginsWithRecord, StopsSo, ReadsNext}
use Rattle.su_log_ahead.specs.Ahead.{GoesOn, IsBehind, AheadState, IsUsedUp, IsLeft, IsExaminedFrom, AreExaminedFrom}
use Rattle.su_log.specs.declared.records.Record.{Record}
use Rattle.su_log.specs.declared.records.Stop.{Stop}

-- ---- reading ahead

-- a log of which these records are read ahead
abbrev pub ahead : List Record → Option Stop → ℕ → Option (List ℕ) → AheadState
ahead records stop place known = record { records = records; stop = stop; place = place; known = known }

-- before anything is read all of the log is left
pub all_left : (known : Option (List ℕ)) (place : ℕ) (input : List ℕ) → known ≡ Some input → IsLeft (ahead [] None place known) place input
all_left known place input left = record { place' = place; rest = input; goes_on = (refl, refl); behind = (refl, left) }

goes_further : (rs : List LogRecord) (place : ℕ) (input : List ℕ) (place' : ℕ) (rest : List ℕ) (r : LogRecord) (others : List ℕ)
    → GoesOn rs place input place' rest → BeginsWithRecord rest r others → GoesOn (rs ++ r ∷ []) place input (place' + length (record_bytes r)) others
goes_further [] place input place' rest r others (same, is) begins =
    (others, subst (λ l. BeginsWithRecord l r others) is begins, (ap (λ p. p + length (record_bytes r)) same, refl))
goes_further (x ∷ rs) place input place' rest r others (next, first, on) begins = (next, first, goes_further rs _ next place' rest r others on begins)

spelled_more : (rs : List Record) (r : Record) → map spelled (rs ++ r ∷ []) ≡ map spelled rs ++ spelled r ∷ []
spelled_more [] r = refl
spelled_more (x ∷ rs) r = ap (λ l. spelled x ∷ l) (spelled_more rs r)

-- one more is read
pub left_further : (rs : List Record) (at at' : ℕ) (known known' : Option (List ℕ)) (place : ℕ) (input : List ℕ) (r : Record)
    → IsLeft (ahead rs None at known) place input → ((rest : List ℕ) → known ≡ Some rest → ReadsNext (Ok r) at rest at' known')
    → IsLeft (ahead (rs ++ r ∷ []) None at' known') place input
left_further rs at at' known known' place input r l reads =
    let (rest, begins, left, there) = reads l.rest l.behind.1 in
    record {
      place' = l.place' + length (record_bytes (spelled r));
      rest = rest;
      goes_on = subst (λ xs. GoesOn xs place input (l.place' + length (record_bytes (spelled r))) rest) (sym (spelled_more rs r))
          (goes_further (map spelled rs) place input l.place' l.rest (spelled r) rest l.goes_on begins);
      behind = (there ∙ ap (λ p. p + length (record_bytes (spelled r))) l.behind.0, left);
    }

-- none is
pub left_stopped : (rs : List Record) (at at' : ℕ) (known known' : Option (List ℕ)) (place : ℕ) (input : List ℕ) (stop : Stop)
    → IsLeft (ahead rs None at known) place input → ((rest : List ℕ) → known ≡ Some rest → StopsSo stop at rest)
    → IsLeft (ahead rs (Some stop) at' known') place input
left_stopped rs at at' known known' place input stop l stops = record {
  place' = l.place';
  rest = l.rest;
  goes_on = l.goes_on;
  behind = subst (λ p. StopsSo stop p l.rest) l.behind.0 (stops l.rest l.behind.1);
}

pub read_more : (rs : List Record) (r : Record) → AllByRecursion (λ (r : Record). IsRead r.bytes.items r.commit) rs → IsRead r.bytes.items r.commit
    → AllByRecursion (λ (r : Record). IsRead r.bytes.items r.commit) (rs ++ r ∷ [])
read_more [] r are is = (is, tt)
read_more (x ∷ rs) r (first, are) is = (first, read_more rs r are is)

-- where nothing is read ahead, all that is left is the reader's
pub all_unread : (s : AheadState) (place : ℕ) (input : List ℕ) → IsUsedUp s → IsLeft s place input → (s.place ≡ place) × (s.known ≡ Some input)
all_unread s place input (is, none) l =
    let (same, rest_is) = subst (λ rs. GoesOn (map spelled rs) place input l.place' l.rest) is l.goes_on in
    let (here, left) = subst (λ o. IsBehind o s.place s.known l.place' l.rest) none l.behind in
    (here ∙ same, left ∙ ap (λ r. Some r) rest_is)

-- records that are given back whole
pub given_back : (n : ℕ) (ys zs : List Record) → length ys ≡ n → take n (ys ++ zs) ≡ ys
given_back n ys zs long = let within : n ≤ length ys = omega (arith, long) in rw take-append-le (take_all n ys (omega (arith, long)))

-- ---- what was found out

behind : (x y : Record) (xs ys : List Record) → AreExaminedFrom (x ∷ xs) (y ∷ ys) → AreExaminedFrom xs ys
behind x y xs ys each i d within = each (suc i) d (omega arith)

here : (x y : Record) (xs ys : List Record) → AreExaminedFrom (x ∷ xs) (y ∷ ys) → IsExaminedFrom x y
here x y xs ys each = each 0 x (omega arith)

known_then : (x y : Record) → IsRead x.bytes.items x.commit → IsExaminedFrom x y → IsExamined y
known_then x y read is = record {
  read = subst (λ (z : Record). IsRead z.bytes.items z.commit) (sym is.same) read;
  verdict = is.verdict;
  digests = is.digests;
}

-- what was read is examined
pub examined : (xs ys : List Record) → length ys ≡ length xs → AllByRecursion (λ (r : Record). IsRead r.bytes.items r.commit) xs → AreExaminedFrom xs ys → AllByRecursion IsExamined ys
examined [] [] long read each = tt
examined [] (y ∷ ys) long read each = absurd (omega (arith, long))
examined (x ∷ xs) [] long read each = absurd (omega (arith, long))
examined (x ∷ xs) (y ∷ ys) long (first, read) each =
    (known_then x y first (here x y xs ys each), examined xs ys (omega (arith, long)) read (behind x y xs ys each))

-- and the log has of it what it had
pub all_spelled : (xs ys : List Record) → length ys ≡ length xs → AreExaminedFrom xs ys → map spelled ys ≡ map spelled xs
all_spelled [] [] long each = refl
all_spelled [] (y ∷ ys) long each = absurd (omega (arith, long))
all_spelled (x ∷ xs) [] long each = absurd (omega (arith, long))
all_spelled (x ∷ xs) (y ∷ ys) long each = λ i. spelled ((here x y xs ys each).same i) ∷ all_spelled xs ys (omega (arith, long)) (behind x y xs ys each) i

-- what is left is the same
pub left_examined : (xs ys : List Record) (stop : Option Stop) (at : ℕ) (known : Option (List ℕ)) (place : ℕ) (input : List ℕ) → length ys ≡ length xs
    → AreExaminedFrom xs ys → IsLeft (ahead xs stop at known) place input → IsLeft (ahead ys stop at known) place input
left_examined xs ys stop at known place input long each l = record {
  place' = l.place';
  rest = l.rest;
  goes_on = subst (λ rs. GoesOn rs place input l.place' l.rest) (sym (all_spelled xs ys long each)) l.goes_on;
  behind = l.behind;
}

-- ---- taking

-- the first is given away
pub left_behind : (s : AheadState) (r : Record) (rs : List Record) (place : ℕ) (input : List ℕ) → s.records ≡ r ∷ rs → IsLeft s place input
    → (rest : List ℕ) × BeginsWithRecord input (spelled r) rest × IsLeft (record s { records = rs }) (place + length (record_bytes (spelled r))) rest
left_behind s r rs place input is l =
    let (rest, begins, on) = subst (λ rs. GoesOn (map spelled rs) place input l.place' l.rest) is l.goes_on in
    (rest, begins, record { place' = l.place'; rest = l.rest; goes_on = on; behind = l.behind })

-- none is left
pub stopped : (s : AheadState) (stop : Stop) (place : ℕ) (input : List ℕ) → s.records ≡ [] → s.stop ≡ Some stop → IsLeft s place input → StopsSo stop place input
stopped s stop place input is none l =
    let (same, rest_is) = subst (λ rs. GoesOn (map spelled rs) place input l.place' l.rest) is l.goes_on in
    let stops : StopsSo stop l.place' l.rest = subst (λ o. IsBehind o s.place s.known l.place' l.rest) none l.behind in
    subst (λ p. StopsSo stop p input) same (subst (λ r. StopsSo stop l.place' r) rest_is stops)
