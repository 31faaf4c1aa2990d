-- Runs that have ended.
use Rattle.std.proofs.Common.{◌≡◌, ℕ, ◌+◌, ◌<◌, ◌≤◌, List, length, set, refl, sym, ◌∙◌, subst, inl, inr, arith}
use Rattle.std.proofs.lemmas.Bool.{cases_lt}
use Rattle.std.proofs.lemmas.List.{get_or-set_same, get_or-set_other}
use Rattle.sha_lanes.specs.Chain.{chain, chain_place}
use Rattle.sha_lanes.specs.declared.runs.ChainRun.{ChainRun}
use Rattle.sha_lanes.specs.Run.{HasRun, RunsOn, end_of, idle, run_at}

-- what holds of the chain at the lanes' numbers holds of the end of the run
pub at_end : (run : ChainRun) (from left most : ℕ) (P : List ℕ → Type 0) → from ≡ run.step → left ≡ run.left → run.left ≤ most → (left ≤ most → from + left ≤ 256 → P (chain (chain_place run.id run.leaf run.chain) from left run.value)) → P (end_of run)
at_end run from left most P from_is left_is enough ran =
    let here = ran (omega arith) (omega (arith, run.within)) in
    subst (λ (n : ℕ). P (chain (chain_place run.id run.leaf run.chain) n run.left run.value)) from_is
    (subst (λ (n : ℕ). P (chain (chain_place run.id run.leaf run.chain) from n run.value)) left_is here)

-- the end of a run of no step
pub end_of_none : (run : ChainRun) → run.left ≡ 0 → end_of run ≡ run.value
unfolding chain
end_of_none run none = rw none refl

pub runs_on_itself : (run : ChainRun) → RunsOn run run
runs_on_itself run = record { id = refl; leaf = refl; chain = refl; step = refl; value = refl }

pub runs_on_ended : (before after : ChainRun) → HasRun before after → RunsOn before after
runs_on_ended before after ran = record {
  id = ran.id;
  leaf = ran.leaf;
  chain = ran.chain;
  step = omega (arith, ran.step, ran.left);
  value = end_of_none after ran.left ∙ ran.value;
}

pub runs_on_more : (a b c : ChainRun) → RunsOn a b → RunsOn b c → RunsOn a c
runs_on_more a b c first then = record {
  id = then.id ∙ first.id;
  leaf = then.leaf ∙ first.leaf;
  chain = then.chain ∙ first.chain;
  step = then.step ∙ first.step;
  value = then.value ∙ first.value;
}

pub has_run : (before after : ChainRun) → RunsOn before after → after.left ≡ 0 → HasRun before after
has_run before after on none = record {
  id = on.id;
  leaf = on.leaf;
  chain = on.chain;
  step = omega (arith, on.step, none);
  left = none;
  value = sym (end_of_none after none) ∙ on.value;
}

-- one more run has ended
pub ended_more : (group now : List ChainRun) (l : ℕ) (x : ChainRun) → l < length now → ((k : ℕ) → k < l → HasRun (run_at group k) (run_at now k)) → HasRun (run_at group l) x → (k : ℕ) → k < l + 1 → HasRun (run_at group k) (run_at (set now l x) k)
ended_more group now l x inside before here k low =
    elim (cases_lt k l) [
      | inl less ↦ subst (HasRun (run_at group k)) (sym (get_or-set_other now l k x idle (λ same. omega (arith, same, less)))) (before k less)
      | inr more ↦
          let same : k ≡ l = omega arith in
          subst (λ (n : ℕ). HasRun (run_at group n) (run_at (set now l x) n)) (sym same) (subst (HasRun (run_at group l)) (sym (get_or-set_same now l x idle inside)) here)
    ]
