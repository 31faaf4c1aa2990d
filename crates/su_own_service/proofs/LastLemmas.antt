-- The users' last commits are such as a reply may tell.
use Rattle.std.proofs.Common.{◌≡◌, ℕ, zero, suc, ◌+◌, ◌<◌, ◌≤◌, ◌^◌, Bool, true, false, cond, nat_eq, List, [], ◌∷◌, ◌++◌, length, Option, Some, None, refl, subst, arith, append-nil, length-append}
use Rattle.su_bytes.specs.Principal.{is_user}
use Rattle.std.proofs.lemmas.Bool.Decides.{nat_tests}
use Rattle.su_format.specs.Format.{EachFrom}
use Rattle.su_message.specs.LastNumbers.{IsLast, AreLast}
use Rattle.su_version.specs.Commit.{Commit}
use Rattle.su_book.specs.Machine.{last_from, last_number, last_numbers_below, last_numbers, paired}

abbrev Users : Type 0
Users = List (ℕ × ℕ)

-- ---- a list that ascends, with one user more

-- the least that the next one may be
abbrev least : ℕ → Users → ℕ
least s [] = s
least s (u ∷ us) = least (u.0 + 1) us

abbrev Ascend : ℕ → Users → Type 0
Ascend s us = EachFrom IsLast (λ u. u.0 + 1) s us

least-push : (s : ℕ) (us : Users) (u : ℕ × ℕ) → least s (us ++ u ∷ []) ≡ u.0 + 1
least-push s [] u = refl
least-push s (x ∷ us) u = least-push (x.0 + 1) us u

ascend-push : (s : ℕ) (us : Users) (u : ℕ × ℕ) → Ascend s us → IsLast (least s us) u → Ascend s (us ++ u ∷ [])
ascend-push s [] u up is = (is, tt)
ascend-push s (x ∷ us) u up is = (up.0, ascend-push (x.0 + 1) us u up.1 is)

-- ---- numbers are those of commits

abbrev Below : ℕ → Option ℕ → Type 0
Below most o = (m : ℕ) → o ≡ Some m → m < most

some_below : (n most : ℕ) → n < most → Below most (Some n)
some_below n most below m is = let same : n ≡ m = cc in subst (λ k. k < most) same below

cond_below : (b : Bool) (most n : ℕ) (last : Option ℕ) → n < most → Below most last → Below most (cond b (Some n) last)
cond_below true most n last below was = some_below n most below
cond_below false most n last below was = was

from_below : (u n most : ℕ) (last : Option ℕ) (cs : List Commit) → Below most last → n + length cs ≤ most → Below most (last_from u n last cs)
from_below u n most last [] was room = was
from_below u n most last (c ∷ cs) was room =
    from_below u (n + 1) most (cond (nat_eq c.version.author u) (Some n) last) cs (cond_below (nat_eq c.version.author u) most n last (omega (arith, room)) was) (omega (arith, room))

number_below : (u : ℕ) (cs : List Commit) → Below (1 + length cs) (last_number u cs)
unfolding last_number
number_below u cs = from_below u 1 (1 + length cs) None cs (λ m is. absurd (cc)) (omega arith)

-- ---- all users

record Ascends (u : ℕ) (us : Users) : Type 0 where
  ascend : Ascend 0 us
  next : least 0 us ≤ u
  count : length us ≤ u

one_more : (u : ℕ) (us : Users) (o : Option ℕ) → is_user u ≡ true → Below (2 ^ 64) o → Ascends u us → Ascends (u + 1) (us ++ paired u o)
one_more u us None user below was = record {
  ascend = rw append-nil was.ascend;
  next = rw append-nil (omega (arith, was.next));
  count = rw append-nil (omega (arith, was.count));
}
one_more u us (Some n) user below was = record {
  ascend = ascend-push 0 us (u, n) was.ascend (record { above = was.next; user = user; number = below n refl });
  next = omega (arith, least-push 0 us (u, n));
  count = omega (arith, length-append us ((u, n) ∷ []), was.count);
}

is_user_below : (u : ℕ) → u < 64 → is_user u ≡ true
is_user_below u below = grind (arith, nat_tests)

below_64 : (most : ℕ) (o : Option ℕ) → most ≤ 2 ^ 64 → Below most o → Below (2 ^ 64) o
below_64 most o within below m is = omega (arith, below m is, within)

ascends : (u : ℕ) (cs : List Commit) → u ≤ 64 → length cs < 2 ^ 64 → Ascends u (last_numbers_below u cs)
unfolding last_numbers_below
ascends zero cs within few = record { ascend = tt; next = omega arith; count = omega arith }
ascends (suc u) cs within few =
    subst (λ v. Ascends v (last_numbers_below u cs ++ paired u (last_number u cs))) (omega arith)
    (one_more u (last_numbers_below u cs) (last_number u cs) (is_user_below u (omega (arith, within)))
    (below_64 (1 + length cs) (last_number u cs) (omega (arith, few)) (number_below u cs)) (ascends u cs (omega (arith, within)) few))

pub are_last : (cs : List Commit) → length cs < 2 ^ 64 → AreLast (last_numbers cs)
unfolding last_numbers
are_last cs few =
    let all = ascends 64 cs (omega arith) few in
    record { count = omega (arith, all.count); ascend = all.ascend }
