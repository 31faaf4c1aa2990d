-- What a contract sees of a kept key.
use Rattle.std.specs.Prelude.{◌≡◌, ℕ, List, ◌<◌, ◌≤◌, ◌+◌, ◌-◌, ◌^◌, max, min}
use Rattle.su_lms.specs.PrivateKey.{PrivateKey, leaf_count, few_of}

-- the path of its file, the key, the leaf that signs next, the leaf that the file says, how many
-- signatures one write of the file serves, and how many calls have failed to store a leaf
pub record Kept : Type 0 where
  pub path : List ℕ
  pub key : PrivateKey
  pub next : ℕ
  pub stored : ℕ
  pub ahead : ℕ
  pub failures : ℕ

-- the first of the last few leaves of a key, which are stored one by one, so that a process that is
-- killed leaves some of them to go on to the next key
abbrev pub last_part : PrivateKey → ℕ
last_part key = leaf_count key - few_of (leaf_count key)

-- a file that says this leaf gives none again that signed before the next one; what it leaves out, if
-- it is opened so, are fewer than `ahead` leaves of the tree, and none of the last few
abbrev pub Suffices : PrivateKey → ℕ → ℕ → ℕ → Type 0
Suffices key ahead next stored =
    (next ≤ stored) × (stored < next + ahead) × (stored ≤ leaf_count key)
    × (stored ≤ max next (last_part key))

-- a later leaf of the tree signs next, or none where each has signed; what is stored suffices for it,
-- and is never lower than before: it stays where it suffices already. Nothing else has changed
abbrev pub Advances : Kept → ℕ → Kept → Type 0
Advances before q after =
    (before.next < q) × (q ≤ leaf_count before.key)
    × Suffices before.key before.ahead q after.stored
    × (before.stored ≤ after.stored)
    × (q ≤ before.stored → after.stored ≡ before.stored)
    × (after ≡ record before { next = q; stored = after.stored })

-- one more call has failed, and nothing else has changed
abbrev pub CountsFailure : Kept → Kept → Type 0
CountsFailure before after =
    after ≡ record before { failures = min (before.failures + 1) (2 ^ 64 - 1) }
