-- What a client notices: a list that lacks some of the user's commits, or forks from it, shows it in its vectors.
use Rattle.std.proofs.Common.{◌≡◌, ◌≢◌, ℕ, ◌+◌, ◌-◌, ◌<◌, ◌≤◌, ◌⊎◌, ◌||◌, Bool, true, false, cond, List, [], ◌∷◌, ◌++◌, length, length-append, get_or, take, drop, nat_eq, Option, None, Some, refl, sym, ap, ◌∙◌, subst, arith, append_assoc, append-nil, inl, inr}
use Rattle.std.specs.Prelude.{option_map}
use Rattle.std.specs.List.{Contains, AllByRecursion, list_any}
use Rattle.std.specs.Option.{option_or}
use Rattle.std.proofs.Math.Seq.{take-append_seam}
use Rattle.std.proofs.lemmas.Option.{slice_get_within, get_or_from_slice_get, slice_get_read}
use Rattle.std.proofs.lemmas.List.{take-append-drop, take-append-le, length-take, get_or-append-add}
use Rattle.std.proofs.lemmas.List.Elements.{Contains-append_cases, Contains-append_right}
use Rattle.std.proofs.lemmas.Bool.{eqb-true}
use Rattle.su_bytes.specs.Membership.{Membership, has_user}
use Rattle.su_vector.specs.Vector.{le}
use Rattle.su_version.specs.Commit.{Commit}
use Rattle.su_version.proofs.Public.{next_user}
use Rattle.su_legal.specs.Legal.{Committed, author_of}
use Rattle.su_legal.proofs.Public.{only_in}
use Rattle.su_view.specs.LastCommits.{last_by, own_last, is_by, IsNotBehind, ShowsOwn, ShowsLast}
use Rattle.su_fork.specs.Numbered.{at, ForkAt}
use Rattle.su_fork.specs.Events.{World, Event, signing, list_of, all_taken, Run}
use Rattle.su_fork.specs.Premises.{hashed, NoCollision, NoForgery, IsOnlyClient}
use Rattle.su_fork.specs.Noticing.{AreOf, HasUpTo, NoneIsAbove, NoneComparable}
use Rattle.su_fork.specs.Calls.{holding_after}
use Rattle.su_fork.proofs.Places.{Split, split, at_within, at_get, get_at}
use Rattle.su_fork.proofs.Heads.{placed}
use Rattle.su_fork.proofs.Runs.{IsSeen, is_held, list-append}
use Rattle.su_fork.proofs.Agreeing.{shared}
use Rattle.su_fork.proofs.Forking.{le_or_lt, held_seen, as_made, none_above}
use Rattle.su_fork.proofs.Counts.{count, count_rises, count_stays, take_shorter, count_front, count_at, number_counts, some_number, le_number}

squeezed : (l c p q number : ℕ) → l ≤ number → number ≡ c → c ≡ p + 1 → l ≡ q + 1 → p ≤ q → l ≡ number
squeezed l c p q number a b d e f = omega arith

taken_seam : (xs rest : List Committed) (n : ℕ) → length xs ≡ n → take n (xs ++ rest) ≡ xs
taken_seam xs rest n e = subst (λ k. take k (xs ++ rest) ≡ xs) e (take-append_seam xs rest)

clash : (a b c p q r : ℕ) → a ≤ b → b ≤ c → c ≡ p → r ≡ p → r ≤ q → a ≡ q + 1 → ⊥
clash a b c p q r h1 h2 h3 h4 h5 h6 = omega arith

-- where what a list contains stands
place_of : (xs : List Committed) (x : Committed) → Contains xs x → (n : ℕ) × (at xs n ≡ Some x)
place_of xs x (i, l, e) = (i + 1, get_at xs (i + 1) x (omega arith) (slice_get_read xs (length xs) (i + 1 - 1) x refl (omega arith) (sym e ∙ ap (λ j. get_or xs j x) (back i))))
  where
    back : (i : ℕ) → i ≡ i + 1 - 1
    back i = omega arith

at_later : (all xs ys : List Committed) (l n : ℕ) (x : Committed) → all ≡ xs ++ ys → length xs ≡ l → at ys n ≡ Some x → at all (l + n) ≡ Some x
at_later all xs ys l n x whole long e =
    let g = at_get ys n x e in
    let within = slice_get_within ys (n - 1) x g.1 in
    let sum = length-append xs ys in
    let same = ap length whole in
    let next : l + n - 1 ≡ length xs + (n - 1) = omega arith in
    get_at all (l + n) x (omega arith)
    (slice_get_read all (length all) (l + n - 1) x refl (omega arith)
    (sym (ap (λ i. get_or all i x) next ∙ ap (λ zs. get_or zs (length xs + (n - 1)) x) whole ∙ get_or-append-add xs ys (n - 1) x ∙ get_or_from_slice_get ys (n - 1) x x g.1)))

up_to_length : (xs : List Committed) (x : Committed) (n : ℕ) → length xs + 1 ≡ n → length (xs ++ x ∷ []) ≡ n
up_to_length xs x n e = length-append xs (x ∷ []) ∙ e

last_there : (u : ℕ) (cs : List Committed) (l : Committed) → last_by u cs ≡ Some l → Contains cs l × (author_of l ≡ u)
last_there u [] l e = absurd cc
last_there u (c ∷ cs) l e = go (λ i. last_there u cs l i) (last_by u cs) refl (nat_eq (author_of c) u) refl e
  where
    go : (last_by u cs ≡ Some l → Contains cs l × (author_of l ≡ u)) → (o : Option Committed) → last_by u cs ≡ o → (b : Bool) → nat_eq (author_of c) u ≡ b
        → option_or o (cond b (Some c) None) ≡ Some l → Contains (c ∷ cs) l × (author_of l ≡ u)
    go more (Some x) is b by e = let m = more (is ∙ e) in (Contains-append_right (c ∷ []) cs l m.0, m.1)
    go more None is true by e = let same : c ≡ l = cc in (subst (Contains (c ∷ cs)) same (0, omega arith, refl), ap author_of (sym same) ∙ eqb-true (author_of c) u by)
    go more None is false by e = absurd cc

-- the user's own commit that is shown, if the list of last commits has one
record OwnShown (ro : Membership) (u : ℕ) (last : Commit) (shown : List Commit) : Type 0 where
  pub commit : Commit
  pub there : Contains shown commit
  pub by : commit.version.author ≡ u
  pub not_behind : IsNotBehind ro u last commit

own_shown : (ro : Membership) (u : ℕ) (last : Commit) (shown : List Commit) → list_any (is_by u) shown ≡ true
    → AllByRecursion (λ c. is_by u c ≡ true → IsNotBehind ro u last c) shown → OwnShown ro u last shown
own_shown ro u last [] some all = absurd cc
own_shown ro u last (c ∷ shown) some (first, all) = go (λ s. own_shown ro u last shown s all) (is_by u c) refl some
  where
    go : (list_any (is_by u) shown ≡ true → OwnShown ro u last shown) → (b : Bool) → is_by u c ≡ b → (b || list_any (is_by u) shown) ≡ true → OwnShown ro u last (c ∷ shown)
    go more true is some = record { commit = c; there = (0, omega arith, refl); by = eqb-true c.version.author u is; not_behind = first is }
    go more false is some = let m = more some in record { commit = m.commit; there = Contains-append_right (c ∷ []) shown m.commit m.there; by = m.by; not_behind = m.not_behind }

module _ (w : World) (es : List Event) (run : Run w es) (cs : List Committed) (all : (c : Committed) → Contains (all_taken es) c → Contains cs c)
    (apart : NoCollision (hashed w.roster cs)) (honestly : NoForgery w es cs)
    (k : ℕ) (h : w.honest (w.user k) ≡ true) (only : IsOnlyClient w k) (ys : List Committed) (hy : IsSeen w.roster cs ys) where
  mine_held : IsSeen w.roster cs (list_of k es)
  mine_held = held_seen w es run cs all apart es [] k (sym (append-nil es))

  -- what a user's client held when it signed a commit of a list is a front of what it holds now
  pub front_of_mine : (n : ℕ) (c : Committed) → at ys n ≡ Some c → author_of c ≡ w.user k → (rest : List Committed) × (list_of k es ≡ take (n - 1) ys ++ rest)
  front_of_mine n c e by =
      let s = as_made w es run cs all apart honestly (w.user k) ys hy h n c e by in
      let own : list_of k s.made.before ≡ take (n - 1) ys = subst (λ j. list_of j s.made.before ≡ take (n - 1) ys) (only s.client s.user) s.made.holding in (
        list_of k (signing s.client c.commit.version ∷ s.made.after),
        ap (list_of k) s.made.moment ∙ list-append k s.made.before (signing s.client c.commit.version ∷ s.made.after) ∙ ap (λ l. l ++ list_of k (signing s.client c.commit.version ∷ s.made.after)) own,
      )

  -- a list with a commit of user u that isn't behind u's own last one has all of u's list up to that one
  pub has_own : (m n : ℕ) (l c : Committed) → at (list_of k es) m ≡ Some l → author_of l ≡ w.user k → at ys n ≡ Some c → author_of c ≡ w.user k
      → IsNotBehind w.roster (w.user k) l.commit c.commit → take m ys ≡ take m (list_of k es)
  has_own m n l c el byl ec byc nb = go (le_or_lt n m)
    where
      u : ℕ
      u = w.user k

      ro : Membership
      ro = w.roster

      go : (n ≤ m) ⊎ (m < n) → take m ys ≡ take m (list_of k es)
      go (inr lt) =
          let f = front_of_mine n c ec byc in
          let within = at_within ys n c ec in
          let long = length-take (n - 1) ys in
          take_shorter m (n - 1) ys (omega arith) (omega arith)
          ∙ sym (take-append-le m (take (n - 1) ys) f.0 (omega arith))
          ∙ ap (take m) (sym f.1)
      go (inl le) =
          let f = front_of_mine n c ec byc in
          let within = at_within ys n c ec in
          let mine_within = at_within (list_of k es) m l el in
          let low = at_get ys n c ec in
          let long = length-take (n - 1) ys in
          let p = placed ro ys n c hy.legal ec in
          let there : has_user ro u ≡ true = subst (λ a. has_user ro a ≡ true) byc (next_user ro _ c.commit p.joins.next) in
          let number_c = number_counts ro ys n c u hy.legal ec there in
          let number_l = number_counts ro (list_of k es) m l u mine_held.legal el there in
          let shown : nb.number ≡ count ro u (take n ys) = some_number nb.number (count ro u (take n ys)) (sym nb.has ∙ number_c) in
          let no_lower = nb.not_lower (count ro u (take m (list_of k es))) number_l in
          let plus_c = count_at ro u n ys c ec byc in
          let plus_l = count_at ro u m (list_of k es) l el byl in
          let front : take (n - 1) (list_of k es) ≡ take (n - 1) ys = ap (take (n - 1)) f.1 ∙ taken_seam (take (n - 1) ys) f.0 (n - 1) (omega arith) in
          let rises : count ro u (take (n - 1) ys) ≤ count ro u (take (m - 1) (list_of k es))
          = subst (λ l. count ro u l ≤ count ro u (take (m - 1) (list_of k es))) front (count_front ro u (n - 1) (m - 1) (list_of k es) (omega arith) (omega arith)) in
          let equal = squeezed (count ro u (take m (list_of k es))) (count ro u (take n ys)) (count ro u (take (n - 1) ys)) (count ro u (take (m - 1) (list_of k es))) nb.number no_lower shown plus_c plus_l rises in
          let same = nb.same (number_l ∙ ap Some equal) in
          let both = shared ro cs apart ys (list_of k es) hy mine_held n m c l ec el same in
          ap (λ i. take i ys) (sym both.0) ∙ both.1

  -- where the own commit isn't missing among those of a list that are shown, the list has all of u's list up to u's last commit
  pub passed : (shown : List Commit) (l : Committed) → AreOf ys shown → ShowsOwn w.roster (w.user k) (own_last (holding_after w es k 0)) shown → last_by (w.user k) (list_of k es) ≡ Some l
      → HasUpTo l (list_of k es) ys
  passed shown l of_ys shows_own last =
      let mine = last_there (w.user k) (list_of k es) l last in
      let m = place_of (list_of k es) l mine.0 in
      let kept : own_last (holding_after w es k 0) ≡ Some l.commit = ap (option_map (λ (c : Committed). c.commit)) last in
      let shows : ShowsLast w.roster (w.user k) l.commit shown = subst (λ o. ShowsOwn w.roster (w.user k) o shown) kept shows_own in
      let own = own_shown w.roster (w.user k) l.commit shown shows.some_own shows.not_behind in
      let d = of_ys own.commit own.there in
      let n = place_of ys d.0 d.1 in
      record {
        number = m.0;
        there = m.1;
        same = has_own m.0 n.0 l d.0 m.1 mine.1 n.1 (ap (λ (c : Commit). c.version.author) d.2 ∙ own.by) (subst (λ c. IsNotBehind w.roster (w.user k) l.commit c) (sym d.2) own.not_behind);
      }

  -- of a list that forks from the user's at f, where it hasn't a commit of the user, no commit is above one that the user's
  -- list has from there on
  pub not_above : (f : ℕ) (fork : ForkAt f (list_of k es) ys) → author_of fork.there.second ≢ w.user k → NoneIsAbove (w.user k) f (list_of k es) ys
  not_above f fork other m n c d from ec byc ed = decide (le c.commit.version.vector d.commit.version.vector) refl
    where
      u : ℕ
      u = w.user k

      ro : Membership
      ro = w.roster

      rest : Split ys f fork.there.second
      rest = split ys f fork.there.second fork.there.second_is

      none_later : (x : Committed) → Contains (fork.there.second ∷ rest.rest) x → author_of x ≢ u
      none_later x i by = go (Contains-append_cases (fork.there.second ∷ []) rest.rest x i)
        where
          go : Contains (fork.there.second ∷ []) x ⊎ Contains rest.rest x → ⊥
          go (inl here) = other (ap author_of (only_in fork.there.second x here) ∙ by)
          go (inr later) =
              let p = place_of rest.rest x later in
              let whole : ys ≡ (take (f - 1) ys ++ fork.there.second ∷ []) ++ rest.rest = rest.whole ∙ sym (append_assoc (take (f - 1) ys) (fork.there.second ∷ []) rest.rest) in
              let number : at ys (f + p.0) ≡ Some x = at_later ys (take (f - 1) ys ++ fork.there.second ∷ []) rest.rest f p.0 x whole (up_to_length (take (f - 1) ys) fork.there.second f rest.number) p.1 in
              let bound = none_above w es run cs all apart honestly k ys hy h only f fork.there (f + p.0) x number by in
              let low = at_get rest.rest p.0 x p.1 in
              omega (arith, bound, low.0)

      decide : (b : Bool) → le c.commit.version.vector d.commit.version.vector ≡ b → b ≡ false
      decide false is = refl
      decide true is =
          let p = placed ro (list_of k es) m c mine_held.legal ec in
          let there : has_user ro u ≡ true = subst (λ a. has_user ro a ≡ true) byc (next_user ro _ c.commit p.joins.next) in
          let number_c = number_counts ro (list_of k es) m c u mine_held.legal ec there in
          let number_d = number_counts ro ys n d u hy.legal ed there in
          let no_lower = le_number ro.users c.commit.version.vector d.commit.version.vector u (count ro u (take m (list_of k es))) (count ro u (take n ys)) is number_c number_d in
          let within = at_within ys n d ed in
          let mine_within = at_within (list_of k es) m c ec in
          let low = at_get (list_of k es) f fork.there.first fork.there.first_is in
          let plus = count_at ro u m (list_of k es) c ec byc in
          let early : count ro u (take (f - 1) (list_of k es)) ≤ count ro u (take (m - 1) (list_of k es)) = count_front ro u (f - 1) (m - 1) (list_of k es) (omega arith) (omega arith) in
          let all_of_it : count ro u (take n ys) ≤ count ro u ys = subst (λ l. count ro u (take n ys) ≤ count ro u l) (take-append-drop n ys) (count_rises ro u (take n ys) (drop n ys)) in
          let stays : count ro u ys ≡ count ro u (take (f - 1) ys) = ap (count ro u) rest.whole ∙ count_stays ro u (take (f - 1) ys) (fork.there.second ∷ rest.rest) none_later in
          let alike : count ro u (take (f - 1) (list_of k es)) ≡ count ro u (take (f - 1) ys) = ap (count ro u) fork.before in
          absurd (clash (count ro u (take m (list_of k es))) (count ro u (take n ys)) (count ro u ys) (count ro u (take (f - 1) ys)) (count ro u (take (m - 1) (list_of k es)))
          (count ro u (take (f - 1) (list_of k es))) no_lower all_of_it stays alike early plus)

-- ---- both sides of a fork

abbrev other_way : {A : Type 0} (n : ℕ) (xs ys : List A) → ForkAt n xs ys → ForkAt n ys xs
other_way n xs ys fork = record {
  before = sym fork.before;
  there = record {
    first = fork.there.second;
    second = fork.there.first;
    first_is = fork.there.second_is;
    second_is = fork.there.first_is;
    differ = λ e. fork.there.differ (sym e);
  };
}

pub none_comparable : (w : World) (es : List Event) (j k n : ℕ) → Run w es → NoCollision (hashed w.roster (all_taken es)) → NoForgery w es (all_taken es)
    → w.honest (w.user j) ≡ true → IsOnlyClient w j → w.honest (w.user k) ≡ true → IsOnlyClient w k
    → (fork : ForkAt n (list_of j es) (list_of k es)) → author_of fork.there.first ≢ w.user k → author_of fork.there.second ≢ w.user j
    → NoneComparable (w.user j) (w.user k) n (list_of j es) (list_of k es)
none_comparable w es j k n run apart honestly hj only_j hk only_k fork not_k not_j m l c d from_m at_m by_j from_l at_l by_k =
    let xs_held = is_held w es es [] j run (sym (append-nil es)) in
    let ys_held = is_held w es es [] k run (sym (append-nil es)) in (
      not_above w es run (all_taken es) (λ c i. i) apart honestly j hj only_j (list_of k es) ys_held n fork not_j m l c d from_m at_m by_j at_l,
      not_above w es run (all_taken es) (λ c i. i) apart honestly k hk only_k (list_of j es) xs_held n (other_way n (list_of j es) (list_of k es) fork) not_k l m d c from_l at_l by_k at_m,
    )
