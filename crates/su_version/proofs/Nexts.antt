-- What a commit that may come next in a chain has, by its name.
use Rattle.std.proofs.Common.{◌≡◌, ℕ, true, List, refl}
use Rattle.std.specs.Prelude.{Option, Some, None}
use Rattle.su_bytes.specs.Format.{is_as_new}
use Rattle.su_bytes.specs.Membership.{Membership, has_user}
use Rattle.su_version.specs.Commit.{Commit}
use Rattle.su_version.specs.Chain.{chain_head, chain_format, chain_vector, chain_key, chain_keys, tip, IsSignedBy, CountsOn, IsNewKey, IsGoodKey, MayBeNext}
use Rattle.su_version.proofs.Keys.{key_of_user}

-- a commit that its author signed is a user's
pub signed_by_user : (ro : Membership) (cs : List Commit) (c : Commit) → IsSignedBy (chain_key ro c.version.author cs) c → has_user ro c.version.author ≡ true
signed_by_user ro cs c signed = go (chain_key ro c.version.author cs) refl signed
  where
    go : (key : Option (List ℕ)) → chain_key ro c.version.author cs ≡ key → IsSignedBy key c → has_user ro c.version.author ≡ true
    go None is signed = absurd signed
    go (Some key) is signed = key_of_user ro c.version.author cs key is

module _ (ro : Membership) (cs : List Commit) (c : Commit) (next : MayBeNext ro cs c) where
  pub next_signed : IsSignedBy (chain_key ro c.version.author cs) c
  unfolding tip
  next_signed = next.follows.0

  pub next_prev : c.version.prev ≡ chain_head ro cs
  unfolding tip
  next_prev = next.follows.1.0

  pub next_format : is_as_new c.version.format (chain_format cs) ≡ true
  unfolding tip
  next_format = next.follows.1.1.0

  pub next_counts : CountsOn ro (chain_vector ro cs) c
  unfolding tip
  next_counts = next.follows.1.1.1.0

  pub next_new_key : IsNewKey (chain_keys ro cs) c.version.next_key
  unfolding tip
  next_new_key = next.follows.1.1.1.1.1.0

  pub next_good_key : IsGoodKey c.version.next_key
  unfolding tip
  next_good_key = next.follows.1.1.1.1.1.1.0

  pub next_user : has_user ro c.version.author ≡ true
  next_user = signed_by_user ro cs c next_signed
