-- The membership of some keys makes a roster.
use Rattle.std.proofs.Common.{◌≡◌, ℕ, ◌+◌, ◌≤◌, ◌<◌, Bool, true, false, ◌||◌, List, [], ◌∷◌, ◌++◌, length, map, refl, ap, sym, subst, ◌∙◌, arith, nat_eq, get_or, take}
use Rattle.std.specs.Prelude.{All, nat_le}
use Rattle.std.proofs.lemmas.List.Elements.{All-cons, All-nil}
use Rattle.std.proofs.lemmas.Bool.{eqb-false, leb-true, leb-false}
use Rattle.std.specs.List.{enumerate_from, range_with_len}
use Rattle.std.specs.List.Sorted.{IsStrictlyIncreasing}
use Rattle.std.proofs.lemmas.List.{map-append, take_more, length-take}
use Rattle.std.proofs.lemmas.List.FromFn.{length-range_with_len, get_or-range_with_len}
use Rattle.su_bytes.specs.Roster.{users_of, groups_of, membership_of}
use Rattle.su_bytes.specs.declared.rosters.RosterUser.{RosterUser}
use Rattle.su_bytes.specs.declared.rosters.RosterGroup.{RosterGroup}
use Rattle.su_bytes.proofs.Memberships.{numbers-users_of}
use Rattle.su_bytes.specs.Membership.{has_number, membership_of_keys, AreMembers, IsRoster}

-- one key more
pub enumerate_from_more : (a : ℕ) (keys : List (List ℕ)) (k : List ℕ) → enumerate_from a (keys ++ k ∷ []) ≡ enumerate_from a keys ++ (a + length keys, k) ∷ []
enumerate_from_more a [] k = ap (λ n. (n, k) ∷ []) (omega arith)
enumerate_from_more a (x ∷ xs) k =
    ap (λ es. (a, x) ∷ es) (enumerate_from_more (a + 1) xs k ∙ ap (λ n. enumerate_from (a + 1) xs ++ (n, k) ∷ []) (omega arith))

numbers-enumerate_from : (a : ℕ) (keys : List (List ℕ)) → map (λ u. u.0) (enumerate_from a keys) ≡ range_with_len a (length keys)
numbers-enumerate_from a [] = refl
numbers-enumerate_from a (k ∷ ks) = ap (λ ns. a ∷ ns) (numbers-enumerate_from (a + 1) ks)

range_ascends : (a n : ℕ) → IsStrictlyIncreasing (range_with_len a n)
range_ascends a n k within =
    let l = length-range_with_len a n in
    let here = get_or-range_with_len a n k 0 (omega (arith, l)) in
    let next = get_or-range_with_len a n (k + 1) 0 (omega (arith, l)) in
    omega (arith, here, next)

one_ascends : (x : ℕ) → IsStrictlyIncreasing (x ∷ [])
one_ascends x k within = absurd (omega arith)

two_ascend : IsStrictlyIncreasing (0 ∷ 1 ∷ [])
two_ascend k within = let zero : k ≡ 0 = omega arith in subst (λ j. get_or (0 ∷ 1 ∷ []) j 0 < get_or (0 ∷ 1 ∷ []) (j + 1) 0) (sym zero) (omega arith)

-- each number from a on is that of one of the users
has_number-enumerate_from : (a m : ℕ) (keys : List (List ℕ)) → a ≤ m → m < a + length keys → has_number (enumerate_from a keys) m ≡ true
has_number-enumerate_from a m [] low high = absurd (omega arith)
has_number-enumerate_from a m (k ∷ ks) low high = go (nat_eq a m) refl (λ above. has_number-enumerate_from (a + 1) m ks above (omega arith))
  where
    above : nat_eq a m ≡ false → a + 1 ≤ m
    above is = go' (nat_le (a + 1) m) refl
      where
        go' : (b : Bool) → nat_le (a + 1) m ≡ b → a + 1 ≤ m
        go' true in_ = leb-true (a + 1) m in_
        go' false out = let h : m < a + 1 = leb-false (a + 1) m out in let same : a ≡ m = omega arith in absurd (eqb-false a m is same)

    go : (b : Bool) → nat_eq a m ≡ b → (a + 1 ≤ m → has_number (enumerate_from (a + 1) ks) m ≡ true) → (b || has_number (enumerate_from (a + 1) ks) m) ≡ true
    go true is rest = refl
    go false is rest = rest (above is)

IsRoster-of_keys : (k : List ℕ) (ks : List (List ℕ)) → IsRoster (membership_of_keys (k ∷ ks))
IsRoster-of_keys k ks = record {
  first_user = refl;
  first_group = refl;
  users_ascend = subst IsStrictlyIncreasing (sym (numbers-enumerate_from 0 (k ∷ ks))) (range_ascends 0 (length (k ∷ ks)));
  groups_ascend = two_ascend;
  groups_have_members = both;
}
  where
    users : List (ℕ × List ℕ)
    users = (membership_of_keys (k ∷ ks)).users

    all : AreMembers users (range_with_len 0 (length (k ∷ ks)))
    all = record {
      some_member = omega arith;
      ascending = range_ascends 0 (length (k ∷ ks));
      known = λ i d within.
          let l = length-range_with_len 0 (length (k ∷ ks)) in
          let here = get_or-range_with_len 0 (length (k ∷ ks)) i d (omega (arith, l)) in
          subst (λ m. has_number users m ≡ true) (sym here) (has_number-enumerate_from 0 (0 + i) (k ∷ ks) (omega arith) (omega (arith, l)));
    }

    first : AreMembers users (0 ∷ [])
    first = record { some_member = omega arith; ascending = one_ascends 0; known = All-cons (λ m. has_number users m ≡ true) 0 [] refl (All-nil (λ m. has_number users m ≡ true)) }

    both : All (λ (g : ℕ × List ℕ). AreMembers users g.1) ((0, range_with_len 0 (length (k ∷ ks))) ∷ (1, 0 ∷ []) ∷ [])
    both = All-cons (λ (g : ℕ × List ℕ). AreMembers users g.1) (0, range_with_len 0 (length (k ∷ ks))) ((1, 0 ∷ []) ∷ []) all (All-cons (λ (g : ℕ × List ℕ). AreMembers users g.1) (1, 0 ∷ []) [] first (All-nil (λ (g : ℕ × List ℕ). AreMembers users g.1)))

-- users and groups that were made of keys
pub membership_of-of_keys : (users : List RosterUser) (groups : List RosterGroup) (all : List ℕ) (keys : List (List ℕ)) → users_of users ≡ enumerate_from 0 keys → all ≡ map (λ u. u.user) users
    → groups_of groups ≡ (0, all) ∷ (1, 0 ∷ []) ∷ [] → membership_of users groups ≡ membership_of_keys keys
membership_of-of_keys users groups all keys us numbers gs =
    let members : all ≡ range_with_len 0 (length keys) =
    numbers ∙ sym (numbers-users_of users) ∙ ap (map (λ u. u.0)) us ∙ numbers-enumerate_from 0 keys in
    λ i. record { users = us i; groups = (gs ∙ ap (λ ms. (0, ms) ∷ (1, 0 ∷ []) ∷ []) members) i }

pub IsRoster-some_keys : (keys : List (List ℕ)) → 1 ≤ length keys → IsRoster (membership_of_keys keys)
IsRoster-some_keys [] some = absurd (omega arith)
IsRoster-some_keys (k ∷ ks) some = IsRoster-of_keys k ks

-- one user more, with the next key
pub users_of-more : (users : List RosterUser) (u : RosterUser) (keys : List (List ℕ)) (n : ℕ) (d : List ℕ) → n < length keys → users_of users ≡ enumerate_from 0 (take n keys) → u.user ≡ n → u.key ≡ get_or keys n d
    → users_of (users ++ u ∷ []) ≡ enumerate_from 0 (take (n + 1) keys)
users_of-more users u keys n d within so_far number key =
    let count : 0 + length (take n keys) ≡ n = omega (arith, length-take n keys) in
    map-append (λ (r : RosterUser). (r.user, r.key)) users (u ∷ [])
    ∙ ap (λ us. us ++ (u.user, u.key) ∷ []) so_far
    ∙ (λ i. enumerate_from 0 (take n keys) ++ ((number ∙ sym count) i, key i) ∷ [])
    ∙ sym (ap (enumerate_from 0) (take_more keys n d within) ∙ enumerate_from_more 0 (take n keys) (get_or keys n d))
