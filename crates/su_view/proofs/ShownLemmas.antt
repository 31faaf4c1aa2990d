-- What is shown as a user's last commit, beside the one that is kept.
use Rattle.std.proofs.Common.{◌≡◌, ℕ, zero, suc, Bool, true, false, ◌||◌, nat_eq, List, [], ◌∷◌, ◌++◌, Option, Some, slice_get, refl, sym, ap, subst, ◌∙◌, arith, inl, inr}
use Rattle.std.specs.Prelude.{IsTrue, ◌↔◌, ◌⊎◌, Result, Ok, Err, OnOk, IfErr}
use Rattle.std.specs.List.{list_any}
use Rattle.std.specs.Cmp.Lexicographic.{pointwise, bytes_decides}
use Rattle.su_bytes.specs.Membership.{Membership}
use Rattle.sha2.specs.Sha256.{sha256}
use Rattle.su_format.proofs.Public.{spelling_told}
use Rattle.su_vector.specs.Vector.{number_of}
use Rattle.su_version.specs.Commit.{Commit, IsCommit, commit_bytes}
use Rattle.su_version.specs.Chain.{IsSignedBy, chain_key}
use Rattle.su_version.proofs.Public.{commit_of, commit_lawful}
use Rattle.su_chain.specs.ChainEnd.{IsEndOf}
use Rattle.su_legal.specs.Legal.{commits_of}
use Rattle.su_view.specs.Holding.{IsHeld, HoldingState}
use Rattle.su_view.specs.LastCommits.{own_last, IsNotBehind, IsShownSigned, own_order, shown_order, AreSigned}
use Rattle.su_view.specs.Keeping.{holding_of, IsKeeping}
use Rattle.su_view.specs.KeptCommit.{has_digest}
use Rattle.su_view.specs.declared.records.Keeping.{Keeping}
use Rattle.su_bytes.specs.Order.{Passes, RefusedBy}
use Rattle.su_bytes.specs.declared.refusals.Refusal.TheVariants.{NoMemory}
use Rattle.su_view.specs.declared.refusals.ViewRefusal.{ViewRefusal}
use Rattle.su_view.specs.declared.refusals.ViewRefusal.TheVariants.{Plain}

-- commits of the same bytes are the same
same_bytes : (last c : Commit) → IsCommit last → IsCommit c → commit_bytes c ≡ commit_bytes last → c ≡ last
same_bytes last c is_last is_commit e = (spelling_told commit_lawful commit_of c last [] [] is_commit is_last (ap (λ l. l ++ []) e)).0

some_is : (n m : ℕ) → ◌≡◌ {A = Option ℕ} (Some n) (Some m) → n ≡ m
some_is n m e = cc

-- where both have one number, the shown one isn't behind just where the bytes are the same
pub compared : (ro : Membership) (u n m : ℕ) (last c : Commit) → IsCommit last → IsCommit c → number_of ro c.version.vector u ≡ Some n → number_of ro last.version.vector u ≡ Some m → m ≡ n
    → (xs ys : List ℕ) → xs ≡ commit_bytes c → ys ≡ commit_bytes last → (b : Bool) → b ≡ pointwise nat_eq xs ys
    → (b ≡ true → IsNotBehind ro u last c) × (IsNotBehind ro u last c → b ≡ true)
compared ro u n m last c is_last is_commit has held same xs ys xs_are ys_are b e = (
  λ yes. record {
    number = n;
    has = has;
    not_lower = λ k k_is. let k_held : k ≡ m = some_is k m (sym k_is ∙ held) in omega (arith, same, k_held);
    same = λ _. same_bytes last c is_last is_commit (sym xs_are ∙ (bytes_decides xs ys).0 (sym e ∙ yes) ∙ ys_are);
  },
  λ so. let number : n ≡ so.number = some_is n so.number (sym has ∙ so.has) in
      let is_last : c ≡ last = so.same (held ∙ ap (λ k. Some k) (same ∙ number)) in
      e ∙ (bytes_decides xs ys).1 (xs_are ∙ ap commit_bytes is_last ∙ sym ys_are),
)

-- ---- whether a commit is held

any_at : {A : Type 0} (f : A → Bool) (xs : List A) → list_any f xs ≡ true → (i : ℕ) × (x : A) × (slice_get xs i ≡ Some x) × (f x ≡ true)
any_at f [] some = absurd (cc)
any_at f (x ∷ xs) some = go (any_at f xs) (f x) refl some
  where
    go : (list_any f xs ≡ true → (i : ℕ) × (y : _) × (slice_get xs i ≡ Some y) × (f y ≡ true)) → (b : Bool) → f x ≡ b → (b || list_any f xs) ≡ true
        → (i : ℕ) × (y : _) × (slice_get (x ∷ xs) i ≡ Some y) × (f y ≡ true)
    go later true is some = (0, x, refl, is)
    go later false is some = let (i, y, there, so) = later some in (suc i, y, there, so)

at_any : {A : Type 0} (f : A → Bool) (xs : List A) (i : ℕ) (x : A) → slice_get xs i ≡ Some x → f x ≡ true → list_any f xs ≡ true
at_any f [] i x there so = absurd (cc)
at_any f (y ∷ xs) zero x there so = let same : y ≡ x = cc in ap (λ b. b || list_any f xs) (ap f same ∙ so)
at_any f (y ∷ xs) (suc i) x there so = or_true (f y) (list_any f xs) (at_any f xs i x there so)
  where
    or_true : (a b : Bool) → b ≡ true → (a || b) ≡ true
    or_true true b is = refl
    or_true false b is = is

module _ {S : Type 0} (M : S → List ℕ → Type 0) (k : Keeping S) (kept : IsKeeping M k) (c : Commit) (digest : List ℕ) (is : digest ≡ sha256 (commit_bytes c)) where
  -- one of those that are kept has its digest just where the commit is held
  pub any_held : list_any (has_digest digest) k.records.items ≡ true → IsHeld (holding_of k) c
  any_held some =
      let (i, r, there, same) = any_at (has_digest digest) k.records.items some in
      (i, r, ap (λ cs. slice_get cs i) kept.commits ∙ there, (bytes_decides (sha256 (commit_bytes r)) digest).0 same ∙ is)

  pub held_any : IsHeld (holding_of k) c → list_any (has_digest digest) k.records.items ≡ true
  held_any (i, r, there, same) =
      at_any (has_digest digest) k.records.items i r (sym (ap (λ cs. slice_get cs i) kept.commits) ∙ there) ((bytes_decides (sha256 (commit_bytes r)) digest).1 (same ∙ sym is))

-- ---- whether a commit is known to be signed

-- of one that isn't held: by its author's key
pub shown_signed : {S : Type 0} (M : S → List ℕ → Type 0) (k : Keeping S) → IsKeeping M k → (c : Commit) → (IsHeld (holding_of k) c → ⊥) → (a : ℕ) → a ≡ c.version.author → (key found : Option (List ℕ))
    → ((ro : Membership) (cs : List Commit) → IsEndOf ro cs k.end → key ≡ chain_key ro a cs) → found ≡ key → (b : Bool) → IsTrue b ↔ IsSignedBy found c → IsTrue b ↔ IsShownSigned (holding_of k) c
shown_signed M k kept c other a by key found key_is same b so = (λ yes. inr (subst (λ o. IsSignedBy o c) is (so.0 yes)), back)
  where
    is : found ≡ chain_key k.desk.state.settled.roster c.version.author (commits_of (holding_of k).held)
    is = same ∙ key_is k.desk.state.settled.roster k.records.items kept.end_is
        ∙ (λ i. chain_key k.desk.state.settled.roster (by i) (sym kept.commits i))

    back : IsShownSigned (holding_of k) c → IsTrue b
    back (inl held) = absurd (other held)
    back (inr signed) = so.1 (subst (λ o. IsSignedBy o c) (sym is) signed)

-- ---- the whole order, by its first line and the others

module _ (r : Result (Unit {0}) ViewRefusal) (v : HoldingState) (shown : List Commit) (signed : AreSigned v shown)
    (ro : Membership) (ro_is : ro ≡ v.roster) (last : Option Commit) (last_is : last ≡ own_last v) where
  pub order_passes : OnOk r (Passes (own_order ro v.user last shown)) → OnOk r (Passes (shown_order v shown))
  order_passes passes = go r (subst (λ l. OnOk r (Passes (own_order v.roster v.user l shown))) last_is (subst (λ x. OnOk r (Passes (own_order x v.user last shown))) ro_is passes))
    where
      go : (q : Result (Unit {0}) ViewRefusal) → OnOk q (Passes (own_order v.roster v.user (own_last v) shown)) → OnOk q (Passes (shown_order v shown))
      go (Ok x) rest = (signed, rest)
      go (Err e) rest = tt

  pub order_refuses : IfErr r (λ e. (e ≡ Plain NoMemory) ⊎ RefusedBy (own_order ro v.user last shown) e) → IfErr r (λ e. (e ≡ Plain NoMemory) ⊎ RefusedBy (shown_order v shown) e)
  order_refuses refused =
      go r (subst (λ l. IfErr r (λ e. (e ≡ Plain NoMemory) ⊎ RefusedBy (own_order v.roster v.user l shown) e)) last_is
      (subst (λ x. IfErr r (λ e. (e ≡ Plain NoMemory) ⊎ RefusedBy (own_order x v.user last shown) e)) ro_is refused))
    where
      either : (e : ViewRefusal) → (e ≡ Plain NoMemory) ⊎ RefusedBy (own_order v.roster v.user (own_last v) shown) e → (e ≡ Plain NoMemory) ⊎ RefusedBy (shown_order v shown) e
      either e (inl none) = inl none
      either e (inr why) = inr (inr (signed, why))

      go : (q : Result (Unit {0}) ViewRefusal) → IfErr q (λ e. (e ≡ Plain NoMemory) ⊎ RefusedBy (own_order v.roster v.user (own_last v) shown) e)
          → IfErr q (λ e. (e ≡ Plain NoMemory) ⊎ RefusedBy (shown_order v shown) e)
      go (Ok x) rest = tt
      go (Err e) rest = either e rest
