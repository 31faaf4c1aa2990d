-- The tree of a key in memory: the value of node r at place r.
use Rattle.std.specs.Prelude.{ℕ, ◌≡◌, ◌≤◌, ◌<◌, ◌+◌, ◌*◌, ◌-◌, ◌^◌, List, [], length, slice_index_or}
use Rattle.su_lms.specs.ParameterSets.{height_of}
use Rattle.su_lms.specs.PrivateKey.{PrivateKey, leaf_count, leaf_at, node_at}

-- each node of each level stands at its number
pub record IsNodeTable (key : PrivateKey) (nodes : List (List ℕ)) : Type 0 where
  pub size : length nodes ≡ 2 * leaf_count key
  pub each : (level r : ℕ) → level ≤ height_of key.lms → 2 ^ (height_of key.lms - level) ≤ r → r < 2 * 2 ^ (height_of key.lms - level) → slice_index_or nodes r [] ≡ node_at key level r

-- each leaf stands at its number
abbrev pub HasLeaves : PrivateKey → List (List ℕ) → Type 0
HasLeaves key nodes =
    (r : ℕ) → leaf_count key ≤ r → r < 2 * leaf_count key
    → slice_index_or nodes r [] ≡ leaf_at key r

-- the values of leaf q and of those behind it
abbrev pub AreLeaves : PrivateKey → ℕ → List (List ℕ) → Type 0
AreLeaves key q values =
    (k : ℕ) → k < length values → slice_index_or values k [] ≡ leaf_at key (leaf_count key + q + k)
