-- The end of a chain of commits: what the next one is measured by.
use Rattle.std.specs.Prelude.{◌≡◌, ℕ, true, List, length, None, Some, get_or}
use Rattle.su_bytes.specs.Membership.{Membership}
use Rattle.su_bytes.specs.Principal.{is_user}
use Rattle.su_bytes.specs.RosterBytes.{user_key}
use Rattle.su_lms.specs.Signature.{IsPublicKey}
use Rattle.su_version.specs.Commit.{Commit}
use Rattle.su_used_keys.specs.UsedKeys.{HasJust}
use Rattle.su_version.specs.Chain.{chain_head, chain_format, chain_vector, chain_key, chain_keys, last_leaf, Tip, IsChain}
use Rattle.su_chain.specs.declared.ends.UserKey.{UserKey}
use Rattle.su_chain.specs.declared.ends.ChainEnd.{ChainEnd}
use Rattle.su_chain.specs.declared.ends.TheConstants.{USERS}

-- what is known of user u: the key, and the leaf that signed last under it
abbrev pub user_at : List UserKey → ℕ → UserKey
user_at users u = get_or users u (record { key = None; leaf = None })

-- it has a place for each user
abbrev pub HasAllUsers : ChainEnd → Type 0
HasAllUsers e = length e.users.items ≡ USERS

-- what the next commit of user u is measured by, where these are the keys that a user has or had
abbrev pub tip_at : ChainEnd → ℕ → List (List ℕ) → Tip
tip_at e u used = record {
  number = e.number;
  head = e.head;
  format = e.format;
  vector = e.vector;
  key = (user_at e.users.items u).key;
  leaf = (user_at e.users.items u).leaf;
  used = used;
}

-- This is what a chain of commits comes to.
pub record IsEndOf (ro : Membership) (cs : List Commit) (e : ChainEnd) : Type 0 where
  pub chain : IsChain ro cs
  pub number : e.number ≡ length cs
  pub head : e.head ≡ chain_head ro cs
  pub format : e.format ≡ chain_format cs
  pub vector : e.vector ≡ chain_vector ro cs
  pub users : HasAllUsers e
  pub keys : (u : ℕ) → is_user u ≡ true → (user_at e.users.items u).key ≡ chain_key ro u cs
  pub leaves : (u : ℕ) → is_user u ≡ true → (user_at e.users.items u).leaf ≡ last_leaf u cs
  pub used : HasJust (chain_keys ro cs) e.used

-- a user of the roster has a key that is none
pub record HasBadKey (ro : Membership) : Type 0 where
  pub user : ℕ
  pub number : is_user user ≡ true
  pub key : List ℕ
  pub listed : user_key ro user ≡ Some key
  pub bad : ¬ IsPublicKey key
