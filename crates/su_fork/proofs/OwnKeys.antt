-- An honest user's commits in a legal list are signed under keys of the user's own, so the user's clients signed them.
use Rattle.std.proofs.Common.{◌≡◌, ℕ, Bool, true, false, cond, nat_eq, List, [], ◌∷◌, ◌++◌, ◌⊎◌, Option, Some, None, refl, sym, ap, ◌∙◌, subst, inl, inr, append_assoc, append-nil}
use Rattle.std.specs.List.{Contains}
use Rattle.std.proofs.lemmas.List.{map-append}
use Rattle.std.proofs.lemmas.List.Elements.{Contains-append_cases, Contains-append_left}
use Rattle.std.proofs.lemmas.Bool.{eqb-true}
use Rattle.su_bytes.specs.Membership.{Membership}
use Rattle.su_lms.specs.Signature.{IsSigned}
use Rattle.su_version.specs.Version.{version_bytes}
use Rattle.su_version.specs.Commit.{Commit}
use Rattle.su_version.specs.Chain.{IsSignedBy, key_after, chain_key}
use Rattle.su_version.proofs.Public.{key_further, key_at_first, next_signed}
use Rattle.su_legal.specs.Legal.{Committed, commits_of, author_of, Legal}
use Rattle.su_legal.proofs.Public.{from_the_end, is_in_middle, none_in_empty, only_in, legal_next}
use Rattle.su_fork.specs.Events.{World, Event, versions_of}
use Rattle.su_fork.specs.Premises.{IsOwnKey, NoForgery}
use Rattle.su_fork.proofs.Runs.{IsSeen}

-- who has signed has a key
signing_key : (o : Option (List ℕ)) (c : Commit) → IsSignedBy o c → (key : List ℕ) × (o ≡ Some key) × IsSigned key (version_bytes c.version) c.signature
signing_key None c signed = absurd signed
signing_key (Some key) c signed = (key, refl, signed)

-- ---- the key behind one commit more

key_next : (ro : Membership) (u : ℕ) (xs : List Committed) (c : Committed) → chain_key ro u (commits_of (xs ++ c ∷ []))
    ≡ cond (nat_eq (author_of c) u) (key_after (chain_key ro u (commits_of xs)) c.commit.version.next_key) (chain_key ro u (commits_of xs))
key_next ro u xs c = ap (chain_key ro u) (map-append (λ (x : Committed). x.commit) xs (c ∷ [])) ∙ key_further ro u (commits_of xs) c.commit

module _ (w : World) (es : List Event) where
  -- clients of user u signed all of the user's commits among these
  AllSigned : ℕ → List Committed → Type 0
  AllSigned u xs = (c : Committed) → Contains xs c → author_of c ≡ u → Contains (versions_of w u es) c.commit.version

  OwnKey : ℕ → List Committed → Type 0
  OwnKey u xs = AllSigned u xs → (key : List ℕ) → chain_key w.roster u (commits_of xs) ≡ Some key → IsOwnKey w es u key

  -- then the key that the user has behind them is one of the user's own
  own_key : (u : ℕ) (xs : List Committed) → AllSigned u xs → (key : List ℕ) → chain_key w.roster u (commits_of xs) ≡ Some key → IsOwnKey w es u key
  unfolding AllSigned OwnKey
  own_key u = from_the_end (OwnKey u) (λ all key is. inl (sym (key_at_first w.roster u) ∙ is)) step
    where
      step : (xs : List Committed) (c : Committed) → OwnKey u xs → OwnKey u (xs ++ c ∷ [])
      step xs c ih all key is = go (nat_eq (author_of c) u) refl (chain_key w.roster u (commits_of xs)) refl c.commit.version.next_key refl (sym (key_next w.roster u xs c) ∙ is)
        where
          before : chain_key w.roster u (commits_of xs) ≡ Some key → IsOwnKey w es u key
          before = ih (λ d i by. all d (Contains-append_left xs (c ∷ []) d i) by) key

          go : (b : Bool) → nat_eq (author_of c) u ≡ b → (o : Option (List ℕ)) → chain_key w.roster u (commits_of xs) ≡ o → (n : Option (List ℕ)) → c.commit.version.next_key ≡ n
              → cond b (key_after o n) o ≡ Some key → IsOwnKey w es u key
          go false by o held n names is = before (held ∙ is)
          go true by None held n names is = absurd (cc)
          go true by (Some old) held None names is = before (held ∙ is)
          go true by (Some old) held (Some next) names is = inr (c.commit.version, all c (is_in_middle xs [] c) (eqb-true (author_of c) u by), names ∙ is)

  module _ (cs : List Committed) (honestly : NoForgery w es cs) where
    AllSignedIn : ℕ → List Committed → List Committed → Type 0
    AllSignedIn u ys xs = (rest : List Committed) → ys ≡ xs ++ rest → AllSigned u xs

    all_in : (u : ℕ) (ys : List Committed) → IsSeen w.roster cs ys → w.honest u ≡ true → (xs rest : List Committed) → ys ≡ xs ++ rest → AllSigned u xs
    unfolding AllSigned AllSignedIn
    all_in u ys hy h = from_the_end (AllSignedIn u ys) (λ rest e c i by. absurd (none_in_empty c i)) step
      where
        step : (xs : List Committed) (c : Committed) → AllSignedIn u ys xs → AllSignedIn u ys (xs ++ c ∷ [])
        step xs c ih rest whole d i by = go (Contains-append_cases xs (c ∷ []) d i)
          where
            longer : ys ≡ xs ++ c ∷ rest
            longer = whole ∙ append_assoc xs (c ∷ []) rest

            before : AllSigned u xs
            before = ih (c ∷ rest) longer

            here : author_of c ≡ u → Contains (versions_of w u es) c.commit.version
            here by_u =
                let f = legal_next w.roster xs rest c (subst (Legal w.roster) longer hy.legal) in
                let (key, is, signed) = signing_key (chain_key w.roster (author_of c) (commits_of xs)) c.commit (next_signed w.roster (commits_of xs) c.commit f.next) in
                let own = own_key (author_of c) xs (subst (λ a. AllSigned a xs) (sym by_u) before) key is in
                let there = subst (λ l. Contains l c) (sym longer) (is_in_middle xs rest c) in
                subst (λ a. Contains (versions_of w a es) c.commit.version) by_u (honestly.signed c key (ap w.honest by_u ∙ h) (hy.among c there) own signed)

            go : Contains xs d ⊎ Contains (c ∷ []) d → Contains (versions_of w u es) d.commit.version
            go (inl left) = before d left by
            go (inr right) = let same = only_in c d right in subst (λ (x : Committed). Contains (versions_of w u es) x.commit.version) same (here (ap author_of same ∙ by))

    -- what stands in a legal list of these commits as an honest user's was signed by a client of that user
    pub all_signed : (u : ℕ) (ys : List Committed) → IsSeen w.roster cs ys → w.honest u ≡ true → (c : Committed) → Contains ys c → author_of c ≡ u → Contains (versions_of w u es) c.commit.version
    unfolding AllSigned
    all_signed u ys hy h = all_in u ys hy h ys [] (sym (append-nil ys))
