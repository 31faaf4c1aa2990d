-- Version numbers count a user's commits.
use Rattle.std.proofs.Common.{◌≡◌, ◌≢◌, ℕ, ◌+◌, ◌-◌, ◌≤◌, ◌&&◌, ◌||◌, Bool, true, false, cond, List, [], ◌∷◌, ◌++◌, length, map, take, drop, nat_eq, nat_le, Some, refl, sym, ap, ◌∙◌, subst, arith, append_assoc, append-nil}
use Rattle.std.specs.List.{Contains}
use Rattle.std.proofs.lemmas.List.{map-append, take-append-drop, take-append-le, length-take}
use Rattle.std.proofs.lemmas.List.Elements.{Contains-append_right}
use Rattle.std.proofs.lemmas.Bool.{eqb-true, leb-true}
use Rattle.su_bytes.specs.Membership.{Membership, has_number, has_user}
use Rattle.su_bytes.specs.Principal.{user_principal, group_principal}
use Rattle.su_bytes.specs.declared.principals.Principal.{Principal}
use Rattle.su_bytes.specs.declared.principals.Principal.TheVariants.{User}
use Rattle.su_desk.specs.declared.entries.Entry.{Entry}
use Rattle.su_desk.specs.Version.{version, numbered}
use Rattle.su_desk.proofs.VersionNumbers.{version-append, never_falls, author_rises}
use Rattle.su_vector.specs.Vector.{number_in, number_of, le}
use Rattle.su_legal.specs.Legal.{Committed, author_of, entry_of, history, Legal}
use Rattle.su_legal.proofs.Public.{legal_front, vector_last, vector_counts}
use Rattle.su_fork.specs.Numbered.{at}
use Rattle.su_fork.proofs.Places.{split, take_at}
use Rattle.su_fork.proofs.Heads.{placed}

-- how many commits of a list are user u's
abbrev pub count : Membership → ℕ → List Committed → ℕ
count ro u cs = version ro (history cs) (User u)

entry_more : (ro : Membership) (u : ℕ) (cs : List Committed) (c : Committed) → count ro u (cs ++ c ∷ []) ≡ version ro (history cs ++ entry_of c ∷ []) (User u)
entry_more ro u cs c = ap (λ h. version ro h (User u)) (map-append entry_of cs (c ∷ []))

count_own : (ro : Membership) (u : ℕ) (cs : List Committed) (c : Committed) → author_of c ≡ u → count ro u (cs ++ c ∷ []) ≡ count ro u cs + 1
count_own ro u cs c by =
    subst (λ a. count ro a (cs ++ c ∷ []) ≡ count ro a cs + 1) by (entry_more ro (author_of c) cs c ∙ author_rises ro (history cs) (entry_of c))

count_other : (ro : Membership) (u : ℕ) (cs : List Committed) (c : Committed) → author_of c ≢ u → count ro u (cs ++ c ∷ []) ≡ count ro u cs
count_other ro u cs c other =
    let no : nat_eq u (author_of c) ≡ false = grind arith in
    let plus = entry_more ro u cs c ∙ version-append ro (history cs) (entry_of c) (User u) ∙ ap (λ b. count ro u cs + cond b 1 0) no in
    plus ∙ nothing (count ro u cs)
  where
    nothing : (n : ℕ) → n + 0 ≡ n
    nothing n = omega arith

pub count_rises : (ro : Membership) (u : ℕ) (xs ys : List Committed) → count ro u xs ≤ count ro u (xs ++ ys)
count_rises ro u xs [] = subst (λ l. count ro u xs ≤ count ro u l) (sym (append-nil xs)) (omega arith)
count_rises ro u xs (y ∷ ys) =
    let first : count ro u xs ≤ count ro u (xs ++ y ∷ []) = subst (λ n. count ro u xs ≤ n) (sym (entry_more ro u xs y)) (never_falls ro (history xs) (entry_of y) (User u)) in
    let rest : count ro u (xs ++ y ∷ []) ≤ count ro u (xs ++ y ∷ ys) = subst (λ l. count ro u (xs ++ y ∷ []) ≤ count ro u l) (append_assoc xs (y ∷ []) ys) (count_rises ro u (xs ++ y ∷ []) ys) in
    omega (arith, first, rest)

pub count_stays : (ro : Membership) (u : ℕ) (xs ys : List Committed) → ((c : Committed) → Contains ys c → author_of c ≢ u) → count ro u (xs ++ ys) ≡ count ro u xs
count_stays ro u xs [] none = ap (count ro u) (append-nil xs)
count_stays ro u xs (y ∷ ys) none =
    ap (count ro u) (sym (append_assoc xs (y ∷ []) ys))
    ∙ count_stays ro u (xs ++ y ∷ []) ys (λ c i. none c (Contains-append_right (y ∷ []) ys c i))
    ∙ count_other ro u xs y (none y (0, omega arith, refl))

pub take_shorter : {A : Type 0} (m n : ℕ) (xs : List A) → m ≤ n → n ≤ length xs → take m xs ≡ take m (take n xs)
take_shorter m n xs l w =
    let long = length-take n xs in
    ap (take m) (sym (take-append-drop n xs)) ∙ take-append-le m (take n xs) (drop n xs) (omega arith)

-- a longer front has as many or more
pub count_front : (ro : Membership) (u m n : ℕ) (xs : List Committed) → m ≤ n → n ≤ length xs → count ro u (take m xs) ≤ count ro u (take n xs)
count_front ro u m n xs l w =
    subst (λ k. k ≤ count ro u (take n xs)) (sym (ap (count ro u) (take_shorter m n xs l w)))
    (subst (λ zs. count ro u (take m (take n xs)) ≤ count ro u zs) (take-append-drop m (take n xs)) (count_rises ro u (take m (take n xs)) (drop m (take n xs))))

-- a user's own commit is one more
pub count_at : (ro : Membership) (u n : ℕ) (xs : List Committed) (c : Committed) → at xs n ≡ Some c → author_of c ≡ u → count ro u (take n xs) ≡ count ro u (take (n - 1) xs) + 1
count_at ro u n xs c e by = ap (count ro u) (take_at xs n c e) ∙ count_own ro u (take (n - 1) xs) c by

-- ---- a user's number in a vector

number_told : (ro : Membership) (h : List Entry) (us : List (ℕ × List ℕ)) (ps : List Principal) (u : ℕ) → has_number us u ≡ true
    → number_in us (map (λ v. v.1) (map (numbered ro h) (map user_principal us ++ ps))) u ≡ Some (version ro h (User u))
number_told ro h [] ps u e = absurd cc
number_told ro h (x ∷ us) ps u e = go (λ l. number_told ro h us ps u l) (nat_eq x.0 u) refl e
  where
    go : (has_number us u ≡ true → number_in us (map (λ v. v.1) (map (numbered ro h) (map user_principal us ++ ps))) u ≡ Some (version ro h (User u)))
        → (b : Bool) → nat_eq x.0 u ≡ b → (b || has_number us u) ≡ true
        → cond b (Some (version ro h (User x.0))) (number_in us (map (λ v. v.1) (map (numbered ro h) (map user_principal us ++ ps))) u) ≡ Some (version ro h (User u))
    go more true is e = ap (λ a. Some (version ro h (User a))) (eqb-true x.0 u is)
    go more false is e = more e

-- the number that a commit gives a user counts the user's commits up to it
pub number_counts : (ro : Membership) (xs : List Committed) (n : ℕ) (c : Committed) (u : ℕ) → Legal ro xs → at xs n ≡ Some c → has_user ro u ≡ true
    → number_of ro c.commit.version.vector u ≡ Some (count ro u (take n xs))
number_counts ro xs n c u l e there =
    let p = placed ro xs n c l e in
    let up_to = take_at xs n c e in
    let s = split xs n c e in
    let whole : xs ≡ (take (n - 1) xs ++ c ∷ []) ++ s.rest = s.whole ∙ sym (append_assoc (take (n - 1) xs) (c ∷ []) s.rest) in
    let legal : Legal ro (take (n - 1) xs ++ c ∷ []) = legal_front ro (take (n - 1) xs ++ c ∷ []) s.rest (subst (Legal ro) whole l) in
    ap (λ v. number_of ro v u) (sym (vector_last ro (take (n - 1) xs) c) ∙ vector_counts ro (take (n - 1) xs ++ c ∷ []) legal)
    ∙ number_told ro (history (take (n - 1) xs ++ c ∷ [])) ro.users (map group_principal ro.groups) u there
    ∙ ap (λ l. Some (count ro u l)) (sym up_to)

and_parts : (a b : Bool) → (a && b) ≡ true → (a ≡ true) × (b ≡ true)
and_parts true b e = (refl, e)
and_parts false b e = cc

pub some_number : (m n : ℕ) → Some m ≡ Some n → m ≡ n
some_number m n e = cc

-- a vector that isn't above another gives no user a greater number
pub le_number : (us : List (ℕ × List ℕ)) (v x : List ℕ) (u m n : ℕ) → le v x ≡ true → number_in us v u ≡ Some m → number_in us x u ≡ Some n → m ≤ n
le_number [] v x u m n l a b = cc
le_number (p ∷ us) [] x u m n l a b = cc
le_number (p ∷ us) (y ∷ v) [] u m n l a b = cc
le_number (p ∷ us) (y ∷ v) (z ∷ x) u m n l a b =
    let both = and_parts (nat_le y z) (le v x) l in
    go (nat_eq p.0 u) (leb-true y z both.0) (le_number us v x u m n both.1) a b
  where
    go : (c : Bool) → y ≤ z → (number_in us v u ≡ Some m → number_in us x u ≡ Some n → m ≤ n) → cond c (Some y) (number_in us v u) ≡ Some m → cond c (Some z) (number_in us x u) ≡ Some n → m ≤ n
    go true le more a b = let e = some_number y m a in let f = some_number z n b in omega arith
    go false le more a b = more a b
