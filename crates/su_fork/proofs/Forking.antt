-- What is signed stands after the list that the signer held; so forks never join.
use Rattle.std.proofs.Common.{◌≡◌, ℕ, ◌-◌, ◌<◌, ◌≤◌, ◌⊎◌, Bool, true, false, nat_le, List, [], ◌∷◌, ◌++◌, take, Some, refl, sym, ap, ◌∙◌, subst, arith, inl, inr, append_assoc, append-nil}
use Rattle.std.specs.List.{Contains}
use Rattle.std.proofs.lemmas.Bool.{leb-true, leb-false}
use Rattle.su_version.specs.Version.{Version}
use Rattle.su_version.proofs.Public.{next_prev}
use Rattle.su_legal.specs.Legal.{Committed, author_of}
use Rattle.su_fork.specs.Numbered.{at}
use Rattle.su_fork.specs.Events.{World, Event, signing, list_of, all_taken, Run}
use Rattle.su_fork.specs.Premises.{hashed, NoCollision, NoForgery, IsOnlyClient}
use Rattle.su_fork.specs.Consistency.{SignedHolding, AsMade, NotJoined, NeverJoins, NoneAbove}
use Rattle.su_fork.proofs.Places.{at_contains, at_front, at_take, at_from_take, same_some}
use Rattle.su_fork.proofs.Heads.{placed, same_head}
use Rattle.su_fork.proofs.Runs.{came, list-append, roster_within, IsSeen, within_seen, is_held, SignedIn, signed_in}
use Rattle.su_fork.proofs.Agreeing.{front_within}
use Rattle.su_fork.proofs.OwnKeys.{all_signed}

pub le_or_lt : (m n : ℕ) → (m ≤ n) ⊎ (n < m)
le_or_lt m n = go (nat_le m n) refl
  where
    go : (b : Bool) → nat_le m n ≡ b → (m ≤ n) ⊎ (n < m)
    go true is = inl (leb-true m n is)
    go false is = inr (leb-false m n is)

module _ (w : World) (es : List Event) (run : Run w es) (cs : List Committed) (all : (c : Committed) → Contains (all_taken es) c → Contains cs c)
    (apart : NoCollision (hashed w.roster cs)) where
  pub held_seen : (before after : List Event) (k : ℕ) → es ≡ before ++ after → IsSeen w.roster cs (list_of k before)
  held_seen before after k is = let s = is_held w es before after k run is in record { legal = s.legal; among = λ c i. all c (s.among c i) }

  -- a commit whose version structure a client signed stands in each held list after just the list that the client held then
  pub stands_after : (k : ℕ) (v : Version) (mine ys : List Committed) → SignedHolding es k v mine → IsSeen w.roster cs ys
      → (n : ℕ) (c : Committed) → at ys n ≡ Some c → c.commit.version ≡ v → mine ≡ take (n - 1) ys
  stands_after k v mine ys s hy n c e is =
      let came_then = came w s.before s.after (signing k v) (subst (Run w) s.moment run) in
      let hx = held_seen s.before (signing k v ∷ s.after) k s.moment in
      let b = placed w.roster ys n c hy.legal e in
      sym s.holding ∙ same_head (hashed w.roster cs) w.roster apart (roster_within w.roster cs)
      (list_of k s.before) hx.legal (within_seen w.roster cs (list_of k s.before) hx) (take (n - 1) ys) b.legal (front_within (hashed w.roster cs) ys n c (within_seen w.roster cs ys hy) e)
      (sym came_then.may.1 ∙ ap (λ (x : Version). x.prev) (sym is) ∙ next_prev w.roster _ c.commit b.joins.next)

  pub not_joined : (k : ℕ) (ys : List Committed) → IsSeen w.roster cs ys → NotJoined es k ys
  not_joined k ys hy v mine n s fork m c e is =
      let before_c = stands_after k v mine ys s hy m c e is in
      let inside : at (take (m - 1) ys) n ≡ Some fork.first = ap (λ l. at l n) (sym before_c) ∙ fork.first_is in
      fork.differ (same_some fork.first fork.second (sym (at_from_take ys (m - 1) n fork.first inside) ∙ fork.second_is))

  pub never_joins : (j k : ℕ) → NeverJoins es j k
  never_joins j k early before after v n moment fork =
      let rest : List Event = before ++ signing j v ∷ after in
      let whole : es ≡ early ++ rest = moment ∙ append_assoc early before (signing j v ∷ after) in
      let mine = list-append j early before in
      let theirs = ap (list_of k) whole ∙ list-append k early rest in
      not_joined j (list_of k es) (held_seen es [] k (sym (append-nil es))) v (list_of j (early ++ before)) n
      (record { before = early ++ before; after = after; moment = moment; holding = refl })
      (record {
        first = fork.first;
        second = fork.second;
        first_is = ap (λ l. at l n) mine ∙ at_front (list_of j early) (list_of j before) n fork.first fork.first_is;
        second_is = ap (λ l. at l n) theirs ∙ at_front (list_of k early) (list_of k rest) n fork.second fork.second_is;
        differ = fork.differ;
      })

  module _ (honestly : NoForgery w es cs) where
    -- what stands in a held list as an honest user's was signed by a client of that user
    pub was_signed : (u : ℕ) (ys : List Committed) → IsSeen w.roster cs ys → (n : ℕ) (c : Committed) → w.honest u ≡ true → at ys n ≡ Some c → author_of c ≡ u → SignedIn w es u c.commit.version
    was_signed u ys hy n c h e by = signed_in w u es c.commit.version (all_signed w es cs honestly u ys hy h c (at_contains ys n c e) by)

    pub as_made : (u : ℕ) (ys : List Committed) → IsSeen w.roster cs ys → w.honest u ≡ true → AsMade w es u ys
    as_made u ys hy h n c e by =
        let s = was_signed u ys hy n c h e by in
        let then_held : SignedHolding es s.client c.commit.version (list_of s.client s.before) = record { before = s.before; after = s.after; moment = s.moment; holding = refl } in
        record {
          client = s.client;
          user = s.user;
          made = record {
            before = s.before;
            after = s.after;
            moment = s.moment;
            holding = stands_after s.client c.commit.version (list_of s.client s.before) ys then_held hy n c e refl;
          };
        }

    pub none_above : (k : ℕ) (ys : List Committed) → IsSeen w.roster cs ys → w.honest (w.user k) ≡ true → IsOnlyClient w k → NoneAbove (w.user k) (list_of k es) ys
    none_above k ys hy h only n fork m c e by = go (le_or_lt m n)
      where
        go : (m ≤ n) ⊎ (n < m) → m ≤ n
        go (inl le) = le
        go (inr lt) =
            let s = as_made (w.user k) ys hy h m c e by in
            let there : at (take (m - 1) ys) n ≡ Some fork.second = at_take ys (m - 1) n fork.second fork.second_is (omega arith) in
            let held : at (list_of s.client s.made.before) n ≡ Some fork.second = ap (λ l. at l n) s.made.holding ∙ there in
            let mine : at (list_of k s.made.before) n ≡ Some fork.second = subst (λ j. at (list_of j s.made.before) n ≡ Some fork.second) (only s.client s.user) held in
            let still : at (list_of k es) n ≡ Some fork.second
            = ap (λ l. at l n) (ap (list_of k) s.made.moment ∙ list-append k s.made.before (signing s.client c.commit.version ∷ s.made.after)) ∙ at_front (list_of k s.made.before) _ n fork.second mine in
            absurd (fork.differ (same_some fork.first fork.second (sym fork.first_is ∙ still)))
