-- The numbers of the users' last commits, with one commit more.
use Rattle.std.proofs.Common.{◌≡◌, ℕ, ◌+◌, ◌<◌, Bool, true, false, cond, List, [], ◌∷◌, ◌++◌, length, get_or, Option, Some, None, nat_eq, refl, ap, sym, ◌∙◌, subst, arith, add-one}
use Rattle.std.proofs.Math.ListN.{set}
use Rattle.std.proofs.lemmas.List.{get_or-set_same, get_or-set_other, length-set, get_or_default}
use Rattle.std.proofs.lemmas.Bool.{eqb-true, eq-eqb}
use Rattle.std.proofs.lemmas.Bool.Decides.{nat_tests}
use Rattle.su_bytes.specs.Principal.{is_user}
use Rattle.su_version.specs.Commit.{Commit}
use Rattle.su_book.specs.declared.keeping.TheConstants.{USERS}
use Rattle.su_book.specs.Machine.{last_from, last_number, last_numbers_below, paired}
use Rattle.su_book.specs.Kept.{last_at, AreLast}

last_from_more : (u n : ℕ) (last : Option ℕ) (cs : List Commit) (c : Commit) (m : ℕ) → m ≡ n + length cs
    → last_from u n last (cs ++ c ∷ []) ≡ cond (nat_eq c.version.author u) (Some m) (last_from u n last cs)
last_from_more u n last [] c m is =
    let here : n ≡ m = omega arith in
    ap (λ k. cond (nat_eq c.version.author u) (Some k) last) here
last_from_more u n last (x ∷ xs) c m is =
    last_from_more u (n + 1) (cond (nat_eq x.version.author u) (Some n) last) xs c m (omega arith)

pub last_number_more : (u : ℕ) (cs : List Commit) (c : Commit) (m : ℕ) → m ≡ length cs + 1
    → last_number u (cs ++ c ∷ []) ≡ cond (nat_eq c.version.author u) (Some m) (last_number u cs)
unfolding last_number
last_number_more u cs c m is = last_from_more u 1 None cs c m (omega arith)

at_set : (last : List (Option ℕ)) (a m : ℕ) → a < length last → (u : ℕ) (b : Bool) → nat_eq a u ≡ b
    → last_at (set last a (Some m)) u ≡ cond b (Some m) (last_at last u)
at_set last a m within u true is =
    let same : a ≡ u = eqb-true a u is in
    subst (λ x. last_at (set last a (Some m)) x ≡ Some m) same (get_or-set_same last a (Some m) None within)
at_set last a m within u false other =
    get_or-set_other last a u (Some m) None (λ e. let no : false ≡ true = sym other ∙ eq-eqb a u (sym e) in absurd cc)

pub last_more : (cs : List Commit) (c : Commit) (m : ℕ) (last : List (Option ℕ)) → AreLast cs last → m ≡ length cs + 1
    → c.version.author < length last → AreLast (cs ++ c ∷ []) (set last c.version.author (Some m))
last_more cs c m last are is within = record {
  long = length-set last c.version.author (Some m) ∙ are.long;
  numbers = λ u user.
      at_set last c.version.author m within u (nat_eq c.version.author u) refl
      ∙ ap (cond (nat_eq c.version.author u) (Some m)) (are.numbers u user)
      ∙ sym (last_number_more u cs c m is);
}

pub is_user_below : (u : ℕ) → u < USERS → is_user u ≡ true
is_user_below u below = grind (arith, nat_tests)

pub below_more : (u : ℕ) (cs : List Commit) → last_numbers_below (u + 1) cs ≡ last_numbers_below u cs ++ paired u (last_number u cs)
unfolding last_numbers_below
below_more u cs = rw add-one refl

-- what is read of a user's number
pub number_read : (cs : List Commit) (last : List (Option ℕ)) → AreLast cs last → (u : ℕ) (x : Option ℕ) → u < USERS → x ≡ get_or last u x → x ≡ last_number u cs
number_read cs last are u x below is =
    let within : u < length last = omega (arith, are.long) in
    is ∙ get_or_default last u x None within ∙ are.numbers u (is_user_below u below)
