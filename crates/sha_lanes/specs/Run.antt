-- Runs of steps of chains.
use Rattle.std.specs.Prelude.{ℕ, ◌≡◌, ◌<◌, ◌+◌, ◌-◌, ◌%◌, ◌^◌, zero, suc, min, List, [], ◌∷◌, length, slice_index, slice_index_or}
use Rattle.std.proofs.Common.{lit≤, lit<, refl, ap}
use Rattle.sha_lanes.specs.Chain.{AreBytes, chain, chain_place}
use Rattle.sha_lanes.specs.declared.runs.ChainRun.{ChainRun}

-- the value that a run ends with
abbrev pub end_of : ChainRun → List ℕ
end_of run = chain (chain_place run.id run.leaf run.chain) run.step run.left run.value

-- the chain has gone to the end of its run
pub record HasRun (before after : ChainRun) : Type 0 where
  pub id : after.id ≡ before.id
  pub leaf : after.leaf ≡ before.leaf
  pub chain : after.chain ≡ before.chain
  pub step : after.step ≡ before.step + before.left
  pub left : after.left ≡ 0
  pub value : after.value ≡ end_of before

-- the chain has perhaps gone on, and ends where it would have
pub record RunsOn (before after : ChainRun) : Type 0 where
  pub id : after.id ≡ before.id
  pub leaf : after.leaf ≡ before.leaf
  pub chain : after.chain ≡ before.chain
  pub step : after.step + after.left ≡ before.step + before.left
  pub value : end_of after ≡ end_of before

-- n zeros
abbrev pub zeros : ℕ → List ℕ
zeros zero = []
zeros (suc n) = 0 ∷ zeros n

pub length-zeros : (n : ℕ) → length (zeros n) ≡ n
length-zeros zero = refl
length-zeros (suc n) = ap suc (length-zeros n)

pub slice_index-zeros : (n k : ℕ) → slice_index (zeros n) k < 256
slice_index-zeros zero k = lit< tt
slice_index-zeros (suc n) zero = lit< tt
slice_index-zeros (suc n) (suc k) = slice_index-zeros n k

abbrev pub zeros_are_bytes : (n : ℕ) → AreBytes n (zeros n)
zeros_are_bytes n = (length-zeros n, slice_index-zeros n)

-- a run of no step
abbrev pub idle : ChainRun
idle = record {
  id = zeros 16;
  leaf = 0;
  chain = 0;
  step = 0;
  left = 0;
  value = zeros 32;
  within = lit≤ tt;
  id_bytes = zeros_are_bytes 16;
  value_bytes = zeros_are_bytes 32;
}

-- the run at place k of a list
abbrev pub run_at : List ChainRun → ℕ → ChainRun
run_at runs k = slice_index_or runs k idle

-- the place at `at` of an order, or the last one behind its end: the low 16 bits
abbrev pub place_in : List ℕ → ℕ → ℕ
place_in order at = slice_index order (min at (length order - 1)) % 2 ^ 16

-- an order has each place below its length, and no other
pub record IsOrder (order : List ℕ) : Type 0 where
  pub inside : (p : ℕ) → p < length order → slice_index order p % 2 ^ 16 < length order
  pub all : (k : ℕ) → k < length order → (p : ℕ) × (p < length order) × (slice_index order p % 2 ^ 16 ≡ k)
