-- Chains of commits, without their changes: what a server that stores commits can check of them,
-- and a client checks too.
use Rattle.std.specs.Prelude.{◌≡◌, ◌<◌, ℕ, Bool, true, false, Option, Some, None, List, [], ◌∷◌, ◌++◌, length, map, nat_eq, cond, option_to_list}
use Rattle.std.specs.List.{AllByRecursion, flat_map}
use Rattle.std.specs.Option.{unwrap_or}
use Rattle.su_bytes.specs.Membership.{Membership, has_number}
use Rattle.su_bytes.specs.Order.{Line, demand, Passes}
use Rattle.su_bytes.specs.Keys.{is_among, roster_keys}
use Rattle.su_bytes.specs.Format.{is_as_new}
use Rattle.su_bytes.specs.declared.formats.Format.{Format}
use Rattle.su_bytes.specs.declared.formats.Format.TheVariants.{V1}
use Rattle.su_bytes.specs.declared.principals.Principal.{Principal}
use Rattle.su_bytes.specs.declared.principals.Principal.TheVariants.{User, Group}
use Rattle.su_bytes.specs.declared.refusals.Refusal.{Refusal}
use Rattle.su_bytes.specs.declared.refusals.Refusal.TheVariants.{BadSignature, WrongPrev, OldFormat, WrongVector, KeyReuse, BadKey}
use Rattle.su_lms.specs.Signature.{IsPublicKey, IsSigned, leaf_of}
use Rattle.su_vector.specs.Vector.{zeros, bump}
use Rattle.su_version.specs.Version.{version_bytes}
use Rattle.su_version.specs.Commit.{Commit, IsCommit, commit_digest}
use Rattle.su_bytes.specs.RosterBytes.{roster_digest, user_key}

-- ---- what a chain comes to

abbrev pub last_digest : List ℕ → List Commit → List ℕ
last_digest d [] = d
last_digest d (c ∷ cs) = last_digest (commit_digest c) cs

-- its head, which the next commit names: the digest of the last commit, at first that of the roster
unfoldable pub chain_head : Membership → List Commit → List ℕ
chain_head ro cs = last_digest (roster_digest ro) cs

abbrev pub last_vector : List ℕ → List Commit → List ℕ
last_vector v [] = v
last_vector v (c ∷ cs) = last_vector c.version.vector cs

-- the vector of the last commit, at first zeros
unfoldable pub chain_vector : Membership → List Commit → List ℕ
chain_vector ro cs = last_vector (zeros ro) cs

abbrev pub last_format : Format → List Commit → Format
last_format f [] = f
last_format f (c ∷ cs) = last_format c.version.format cs

-- the format of the last commit, at first the oldest one
unfoldable pub chain_format : List Commit → Format
chain_format cs = last_format V1 cs

-- the key of a user who has one, behind a commit of the user's: the next one, if it names one
abbrev pub key_after : Option (List ℕ) → Option (List ℕ) → Option (List ℕ)
key_after None next = None
key_after (Some key) next = Some (unwrap_or next key)

abbrev pub later_key : ℕ → Option (List ℕ) → List Commit → Option (List ℕ)
later_key a key [] = key
later_key a key (c ∷ cs) =
    later_key a (cond (nat_eq c.version.author a) (key_after key c.version.next_key) key) cs

-- the key of user a after these commits: the one that the last commit of a with a next key names,
-- at first the roster's
unfoldable pub chain_key : Membership → ℕ → List Commit → Option (List ℕ)
chain_key ro a cs = later_key a (user_key ro a) cs

-- the last leaf of its author behind a commit: the commit's own, and none where a next key is named
abbrev pub leaf_after : Option (List ℕ) → ℕ → Option ℕ
leaf_after None q = Some q
leaf_after (Some key) q = None

abbrev pub later_leaf : ℕ → Option ℕ → List Commit → Option ℕ
later_leaf a q [] = q
later_leaf a q (c ∷ cs) =
    later_leaf a
    (cond (nat_eq c.version.author a) (leaf_after c.version.next_key (leaf_of c.signature)) q) cs

-- the last leaf by which user a signed under the key that a has after these commits (none after a
-- commit that names the next key)
unfoldable pub last_leaf : ℕ → List Commit → Option ℕ
last_leaf a cs = later_leaf a None cs

-- the next keys that these commits name, in order
abbrev pub next_keys : List Commit → List (List ℕ)
next_keys cs = flat_map (λ c. option_to_list c.version.next_key) cs

-- the keys that a user has or had: the roster's, and each next key
unfoldable pub chain_keys : Membership → List Commit → List (List ℕ)
chain_keys ro cs = roster_keys ro ++ next_keys cs

-- what the next commit of a user is measured by
pub record Tip : Type 0 where
  pub number : ℕ
  pub head : List ℕ
  pub format : Format
  pub vector : List ℕ
  -- the user's key, and the leaf by which the user signed last under it
  pub key : Option (List ℕ)
  pub leaf : Option ℕ
  -- the keys that a user has or had
  pub used : List (List ℕ)

unfoldable pub tip : Membership → List Commit → ℕ → Tip
tip ro cs a = record {
  number = length cs;
  head = chain_head ro cs;
  format = chain_format cs;
  vector = chain_vector ro cs;
  key = chain_key ro a cs;
  leaf = last_leaf a cs;
  used = chain_keys ro cs;
}

-- ---- what comes next

-- the principal is that group
abbrev pub is_that_group : ℕ → Principal → Bool
is_that_group g (User _) = false
is_that_group g (Group h) = nat_eq h g

-- the commit is signed under this key, if there is one
abbrev pub IsSignedBy : Option (List ℕ) → Commit → Type 0
IsSignedBy None c = ⊥
IsSignedBy (Some key) c = IsSigned key (version_bytes c.version) c.signature

-- it carries groups of the roster, and its vector is the one before with the numbers of its author
-- and of these groups one higher
pub record CountsOn (ro : Membership) (vector : List ℕ) (c : Commit) : Type 0 where
  pub groups : AllByRecursion (λ g. has_number ro.groups g.0 ≡ true) c.version.groups
  pub vector_is : c.version.vector
      ≡ bump ro vector c.version.author (map (λ g. g.0) c.version.groups)

-- its leaf is above the author's last one, if there is one
abbrev pub IsNewLeaf : Option ℕ → ℕ → Type 0
IsNewLeaf None q = Unit {0}
IsNewLeaf (Some last) q = last < q

-- the next key is none that a user has or had, if there is one
abbrev pub IsNewKey : List (List ℕ) → Option (List ℕ) → Type 0
IsNewKey used None = Unit {0}
IsNewKey used (Some key) = is_among used key ≡ false

-- the next key is a public key, if there is one
abbrev pub IsGoodKey : Option (List ℕ) → Type 0
IsGoodKey None = Unit {0}
IsGoodKey (Some key) = IsPublicKey key

-- What a commit has to meet to follow a tip, in this order: it is signed under the key; it names
-- the commit before; its format is as new as that one's; its vector counts on; its leaf is new; its
-- next key is new, and is a key.
abbrev pub next_order : Membership → Tip → Commit → List (Line Refusal)
next_order ro t c =
    demand (IsSignedBy t.key c) BadSignature
    ∷ demand (c.version.prev ≡ t.head) (WrongPrev t.number)
    ∷ demand (is_as_new c.version.format t.format ≡ true) OldFormat
    ∷ demand (CountsOn ro t.vector c) WrongVector
    ∷ demand (IsNewLeaf t.leaf (leaf_of c.signature)) KeyReuse
    ∷ demand (IsNewKey t.used c.version.next_key) KeyReuse
    ∷ demand (IsGoodKey c.version.next_key) BadKey
    ∷ []

-- A commit may be the next in a chain: its bytes spell it, and it meets what its author's next
-- commit has to.
pub record MayBeNext (ro : Membership) (cs : List Commit) (c : Commit) : Type 0 where
  pub spelled : IsCommit c
  pub follows : Passes (next_order ro (tip ro cs c.version.author) c)

-- Each of these may come next, after those before it.
abbrev pub ChainAfter : Membership → List Commit → List Commit → Type 0
ChainAfter ro before [] = Unit {0}
ChainAfter ro before (c ∷ cs) = MayBeNext ro before c × ChainAfter ro (before ++ c ∷ []) cs

-- a list of commits of which each may follow those before it
abbrev pub IsChain : Membership → List Commit → Type 0
IsChain ro cs = ChainAfter ro [] cs

-- The author of a commit signed an earlier one of these, under the same key: under the key that the
-- author has after all of them.
pub record SignedBefore (ro : Membership) (cs : List Commit) (author : ℕ) (d : Commit) : Type 0
  where
    pub before : List Commit
    pub behind : List Commit
    pub place : cs ≡ before ++ d ∷ behind
    pub by : d.version.author ≡ author
    pub key : chain_key ro author before ≡ chain_key ro author cs
