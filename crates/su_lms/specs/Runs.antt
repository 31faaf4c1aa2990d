-- The chains of one-time keys as runs side by side.
use Rattle.std.specs.Prelude.{ℕ, ◌≡◌, List}
use Rattle.sha_lanes.specs.declared.runs.ChainRun.{ChainRun}
use Rattle.su_lms.specs.OneTime.{chain, chain_place, private_value}

-- the chain i of leaf q stands at its private value
pub record AtPrivateValue (identifier seed : List ℕ) (q i : ℕ) (run : ChainRun) : Type 0 where
  pub id : run.id ≡ identifier
  pub leaf : run.leaf ≡ q
  pub chain : run.chain ≡ i
  pub value : run.value ≡ private_value identifier seed q i

-- the value that a chain comes to in steps 0 to `steps` - 1
abbrev pub value_after : ChainRun → ℕ → List ℕ
value_after run steps = chain (chain_place run.id run.leaf run.chain) 0 steps run.value
