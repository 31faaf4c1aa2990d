-- The head that a list had with fewer commits.
use Rattle.std.proofs.Common.{◌≡◌, ℕ, zero, suc, ◌-◌, ◌<◌, ◌≤◌, Bool, true, false, cond, List, [], ◌∷◌, length, take, nat_eq, Option, Some, None, refl, sym, ap, ◌∙◌, arith, slice_get, get_or, inl, inr, ◌⊎◌}
use Rattle.std.proofs.lemmas.Option.{slice_get_cases}
use Rattle.su_bytes.specs.Membership.{Membership}
use Rattle.su_bytes.specs.RosterBytes.{roster_digest}
use Rattle.su_version.specs.Chain.{chain_head, last_digest}
use Rattle.std.specs.Option.{option_map}
use Rattle.sha2.specs.Sha256.{sha256}
use Rattle.su_version.specs.Commit.{commit_bytes, commit_digest}
use Rattle.su_legal.specs.Legal.{Committed, commits_of}
use Rattle.su_view.specs.Entry.{committed_at}
use Rattle.su_compare.specs.Standing.{head_at}

-- the digest of the last commit, behind a digest
last_of : (d : List ℕ) (cs : List Committed) (i : ℕ) (c : Committed) → slice_get cs i ≡ Some c → last_digest d (commits_of (take (suc i) cs)) ≡ commit_digest c.commit
last_of d [] i c e = absurd (let bad : None ≡ Some c = e in cc)
last_of d (x ∷ cs) zero c e = let same : x ≡ c = cc in ap (λ (y : Committed). commit_digest y.commit) same
last_of d (x ∷ cs) (suc i) c e = last_of (commit_digest x.commit) cs i c e

pub head_there : (ro : Membership) (cs : List Committed) (n : ℕ) (c : Committed) → committed_at cs n ≡ Some c → head_at ro cs n ≡ commit_digest c.commit
unfolding chain_head
head_there ro cs n c e = go (nat_eq n 0) refl e
  where
    go : (b : Bool) → nat_eq n 0 ≡ b → cond b None (slice_get cs (n - 1)) ≡ Some c → last_digest (roster_digest ro) (commits_of (take n cs)) ≡ commit_digest c.commit
    go true is e = absurd (let bad : None ≡ Some c = e in cc)
    go false is e =
        let next : n ≡ suc (n - 1) = grind arith in
        ap (λ k. last_digest (roster_digest ro) (commits_of (take k cs))) next ∙ last_of (roster_digest ro) cs (n - 1) c e

pub head_at_first : (ro : Membership) (cs : List Committed) (n : ℕ) → n ≤ length cs → committed_at cs n ≡ None → head_at ro cs n ≡ roster_digest ro
unfolding chain_head
head_at_first ro cs n le e = go (nat_eq n 0) refl e
  where
    there : (k : ℕ) → slice_get cs k ≡ None → length cs ≤ k
    there k e = by (slice_get_cases cs k)
      where
        by : (slice_get cs k ≡ slice_get cs k) × (((x : Committed) × (k < length cs) × (slice_get cs k ≡ Some x) × (get_or cs k x ≡ x)) ⊎ ((length cs ≤ k) × (slice_get cs k ≡ None))) → length cs ≤ k
        by (is, inl found) = absurd (let bad : None ≡ Some found.0 = sym e ∙ found.2 in cc)
        by (is, inr past) = past.0

    go : (b : Bool) → nat_eq n 0 ≡ b → cond b None (slice_get cs (n - 1)) ≡ None → last_digest (roster_digest ro) (commits_of (take n cs)) ≡ roster_digest ro
    go true is e = let none : n ≡ 0 = grind arith in ap (λ k. last_digest (roster_digest ro) (commits_of (take k cs))) none
    go false is e = let past = there (n - 1) e in let some : 1 ≤ n = grind arith in absurd (omega (arith, past, some, le))

-- ---- the commit whose digest is told

pub digest_told : (o : Option Committed) (digest : List ℕ) → ◌≡◌ {A = Option (List ℕ)} (Some digest) (option_map (λ (c : Committed). sha256 (commit_bytes c.commit)) o)
    → (c : Committed) × (o ≡ Some c) × (digest ≡ sha256 (commit_bytes c.commit))
digest_told None digest is = absurd (cc)
digest_told (Some c) digest is = (c, refl, cc)

pub none_told : (o : Option Committed) → ◌≡◌ {A = Option (List ℕ)} None (option_map (λ (c : Committed). sha256 (commit_bytes c.commit)) o) → o ≡ None
none_told None is = refl
none_told (Some c) is = absurd (cc)
