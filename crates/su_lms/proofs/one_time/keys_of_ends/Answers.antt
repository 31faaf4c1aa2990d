use Rattle.std.proofs.Common.{◌≡◌, ℕ, ◌+◌, ◌*◌, ◌-◌, [], List, set, get_or, ap, ◌∙◌, subst, inl, inr, arith}
use Rattle.std.proofs.lemmas.Bool.{cases_lt}
use Rattle.std.proofs.lemmas.List.{get_or-set_same, get_or-set_other, length-set}
use Rattle.sha_lanes.specs.declared.runs.ChainRun.{ChainRun}
use Rattle.sha_lanes.specs.Run.{run_at}
use Rattle.su_lms.specs.OneTime.{hash_of_ends}
use Rattle.su_lms.proofs.Joining.{hash_of_ends_same}
use Rattle.su_lms.proofs.ChainRuns.{run_at-part}
use Rattle.su_lms.proofs.one_time.keys_of_ends.Goals as goal

pub loop-l-preserved : goal.loop-l-preserved
loop-l-preserved c =
    let keys : List (List ℕ) = c.loop-l.keys in
    let ends : List ChainRun = c.args.ends.now in
    let l : ℕ = c.loop-l.l in
    let count : ℕ = c.args.count in
    let key : ℕ → List ℕ = λ k. hash_of_ends c.args.ots c.args.id.now (c.args.q + k) (λ i. (run_at ends (k * count + i)).value) in
    let here : c.key_of_ends.result ≡ key l =
    c.key_of_ends.ensures
    ∙ hash_of_ends_same c.args.ots c.args.id.now (c.args.q + l) _ _ (λ i low. ap (λ (run : ChainRun). run.value) (run_at-part ends (l * count) (l * count + count - l * count) i (omega arith))) in
    record {
      size = length-set keys l c.key_of_ends.result ∙ c.loop-l.invariant.size;
      each = λ k low. elim (cases_lt k l) [
        | inl before ↦ get_or-set_other keys l k c.key_of_ends.result [] (λ same. omega (arith, same, before)) ∙ c.loop-l.invariant.each k before
        | inr at ↦
            let same : l ≡ k = omega arith in
            subst (λ (n : ℕ). get_or (set keys l c.key_of_ends.result) n [] ≡ key n) same (get_or-set_same keys l c.key_of_ends.result [] (omega (arith, c.loop-l.invariant.size)) ∙ here)
      ];
    }
