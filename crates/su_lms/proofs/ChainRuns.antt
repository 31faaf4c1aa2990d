-- Lists of chains that are set one after another.
use Rattle.std.proofs.Common.{◌≡◌, ℕ, ◌+◌, ◌<◌, ◌≤◌, List, length, set, take, drop, refl, sym, ◌∙◌, subst, inl, inr, arith}
use Rattle.std.proofs.lemmas.Bool.{cases_lt}
use Rattle.std.proofs.lemmas.List.{get_or-set_same, get_or-set_other, get_or-take, get_or-drop}
use Rattle.sha_lanes.specs.declared.runs.ChainRun.{ChainRun}
use Rattle.sha_lanes.specs.Run.{HasRun, idle, run_at}
use Rattle.su_lms.specs.OneTime.{chain, chain_place, private_value}
use Rattle.su_lms.specs.Runs.{AtPrivateValue, value_after}

-- what holds of the runs before k, and of the one that is set there, holds of those before k + 1
pub set_next : (P : ℕ → ChainRun → Type 0) (now : List ChainRun) (k : ℕ) (x : ChainRun) → k < length now → ((j : ℕ) → j < k → P j (run_at now j)) → P k x → (j : ℕ) → j < k + 1 → P j (run_at (set now k x) j)
set_next P now k x inside before here j low =
    elim (cases_lt j k) [
      | inl less ↦ subst (P j) (sym (get_or-set_other now k j x idle (λ same. omega (arith, same, less)))) (before j less)
      | inr more ↦
          let same : k ≡ j = omega arith in
          subst (λ (n : ℕ). P n (run_at (set now k x) n)) same (subst (P k) (sym (get_or-set_same now k x idle inside)) here)
    ]

-- those behind k are as they were
pub set_behind : (first now : List ChainRun) (k : ℕ) (x : ChainRun) → ((j : ℕ) → k ≤ j → run_at now j ≡ run_at first j) → (j : ℕ) → k + 1 ≤ j → run_at (set now k x) j ≡ run_at first j
set_behind first now k x were j low = get_or-set_other now k j x idle (λ same. omega (arith, same, low)) ∙ were j (omega arith)

-- the chain i of leaf q stands at SEED before step 255
pub record AtSeed (identifier seed : List ℕ) (q i : ℕ) (run : ChainRun) : Type 0 where
  pub id : run.id ≡ identifier
  pub leaf : run.leaf ≡ q
  pub chain : run.chain ≡ i
  pub step : run.step ≡ 255
  pub left : run.left ≡ 1
  pub value : run.value ≡ seed

-- step 255 of SEED makes the private value
pub at_private_value : (identifier seed : List ℕ) (q i : ℕ) (before after : ChainRun) → AtSeed identifier seed q i before → HasRun before after → AtPrivateValue identifier seed q i after
unfolding private_value chain
at_private_value identifier seed q i before after at ran = record {
  id = ran.id ∙ at.id;
  leaf = ran.leaf ∙ at.leaf;
  chain = ran.chain ∙ at.chain;
  value = ran.value ∙ rw (at.id, at.leaf, at.chain, at.step, at.left, at.value) refl;
}

-- the value that a chain comes to from its private value
pub value_after_private : (identifier seed : List ℕ) (q i steps : ℕ) (run : ChainRun) → AtPrivateValue identifier seed q i run → value_after run steps ≡ chain (chain_place identifier q i) 0 steps (private_value identifier seed q i)
value_after_private identifier seed q i steps run at = rw (at.id, at.leaf, at.chain, at.value) refl

-- a run of a part of a list
pub run_at-part : (runs : List ChainRun) (first n i : ℕ) → i < n → run_at (take n (drop first runs)) i ≡ run_at runs (first + i)
run_at-part runs first n i low = get_or-take n (drop first runs) i idle low ∙ get_or-drop first runs i idle
