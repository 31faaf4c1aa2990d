-- The keys of users that were read so far are keys.
use Rattle.std.proofs.Common.{◌≡◌, ◌+◌, ◌<◌, ◌≤◌, ◌⊎◌, ℕ, List, Option, Some, None, inl, inr, ◌∙◌, subst, arith}
use Rattle.std.specs.Prelude.{IfSome}
use Rattle.su_bytes.specs.Membership.{Membership}
use Rattle.su_bytes.specs.RosterBytes.{user_key}
use Rattle.su_lms.specs.Signature.{IsPublicKey}
use Rattle.su_chain.specs.ChainEnd.{HasBadKey}

-- so are those of the users below n
abbrev pub AreGood : Membership → ℕ → Type 0
AreGood ro n = (u : ℕ) (key : List ℕ) → u < n → user_key ro u ≡ Some key → IsPublicKey key

this_key : (k : Option (List ℕ)) (key : List ℕ) → IfSome k IsPublicKey → k ≡ Some key → IsPublicKey key
this_key (Some x) key good is = subst IsPublicKey (let same : Some x ≡ Some key = is in cc) good
this_key None key good is = absurd cc

pub one_more : (ro : Membership) (n : ℕ) (k : Option (List ℕ)) → AreGood ro n → k ≡ user_key ro n → IfSome k IsPublicKey → AreGood ro (n + 1)
one_more ro n k good read this u key below is = go (grind (arith, below))
  where
    go : (u < n) ⊎ (u ≡ n) → IsPublicKey key
    go (inl lower) = good u key lower is
    go (inr same) = this_key k key this (read ∙ subst (λ m. user_key ro m ≡ Some key) same is)

pub none_bad : (ro : Membership) (n : ℕ) → AreGood ro n → 64 ≤ n → HasBadKey ro → ⊥
none_bad ro n good all b =
    let within : b.user < 64 = grind (arith, b.number) in
    b.bad (good b.user b.key (omega (arith, within, all)) b.listed)
