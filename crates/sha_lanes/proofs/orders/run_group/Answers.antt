use Rattle.std.proofs.Common.{◌≡◌, ℕ, ◌+◌, ◌-◌, ◌<◌, length, lit<, slice_index_or, refl, ap, sym, ◌∙◌, subst, inl, inr, arith}
use Rattle.std.proofs.lemmas.Bool.{cases_lt}
use Rattle.std.proofs.lemmas.List.{get_or_default, length-set}
use Rattle.sha_lanes.specs.declared.runs.ChainRun.{ChainRun}
use Rattle.sha_lanes.specs.Run.{HasRun, RunsOn, idle, place_in, run_at}
use Rattle.sha_lanes.proofs.Ends.{runs_on_itself, runs_on_ended}
use Rattle.sha_lanes.proofs.LaneLemmas.{below_eight}
use Rattle.sha_lanes.proofs.Ordering.{has_run_at, place_inside, put_back, put_ended}
use Rattle.sha_lanes.proofs.orders.run_group.Goals as goal

pub loop-l-preserved : goal.loop-l-preserved
loop-l-preserved c =
    let runs = c.args.runs.now in
    let order = c.args.order.now in
    let first : ℕ = c.args.first in
    let ended = c.run_eight-ended.result in
    let l : ℕ = c.loop-l.l in
    let is = c.requires.order in
    let some : 0 < length order = omega arith in
    let ran = c.run_eight-ended.ensures in
    let each : (k : ℕ) → k < 8 → HasRun (run_at runs (place_in order (first + k))) (run_at ended k) =
    below_eight (λ k. HasRun (run_at runs (place_in order (first + k))) (run_at ended k))
    (has_run_at runs order first 0 first c.place_in.result _ _ is some c.requires.size c.place_in.ensures (omega arith) c.index-runs-place_in.is (ran 0 (lit< tt)))
    (has_run_at runs order first 1 _ c.place_in-2.result _ _ is some c.requires.size c.place_in-2.ensures refl c.index-runs-place_in-2.is (ran 1 (lit< tt)))
    (has_run_at runs order first 2 _ c.place_in-3.result _ _ is some c.requires.size c.place_in-3.ensures refl c.index-runs-place_in-3.is (ran 2 (lit< tt)))
    (has_run_at runs order first 3 _ c.place_in-4.result _ _ is some c.requires.size c.place_in-4.ensures refl c.index-runs-place_in-4.is (ran 3 (lit< tt)))
    (has_run_at runs order first 4 _ c.place_in-5.result _ _ is some c.requires.size c.place_in-5.ensures refl c.index-runs-place_in-5.is (ran 4 (lit< tt)))
    (has_run_at runs order first 5 _ c.place_in-6.result _ _ is some c.requires.size c.place_in-6.ensures refl c.index-runs-place_in-6.is (ran 5 (lit< tt)))
    (has_run_at runs order first 6 _ c.place_in-7.result _ _ is some c.requires.size c.place_in-7.ensures refl c.index-runs-place_in-7.is (ran 6 (lit< tt)))
    (has_run_at runs order first 7 _ c.place_in-8.result _ _ is some c.requires.size c.place_in-8.ensures refl c.index-runs-place_in-8.is (ran 7 (lit< tt))) in
    let place : ℕ = c.place_in-in-loop-l.result in
    let place_is : place ≡ place_in order (first + l) = c.place_in-in-loop-l.ensures in
    let low : l < 8 = omega arith in
    let x : ChainRun = slice_index_or ended l c.run-item.result in
    let x_is : run_at ended l ≡ x = get_or_default ended l idle c.run-item.result (omega arith) in
    let here : HasRun (run_at runs place) x = subst (λ (n : ℕ). HasRun (run_at runs n) x) (sym place_is) (subst (HasRun (run_at runs (place_in order (first + l)))) x_is (each l low)) in
    let inside : place < length c.loop-l.runs = omega (arith, place_is, place_inside order (first + l) is some, c.loop-l.invariant.size) in
    record {
      size = length-set c.loop-l.runs place x ∙ c.loop-l.invariant.size;
      on = put_back runs c.loop-l.runs place x inside here c.loop-l.invariant.on;
      ended = λ k less. put_ended c.loop-l.runs place x inside here.left (place_in order (first + k)) (elim (cases_lt k l) [
        | inl before ↦ inr (c.loop-l.invariant.ended k before)
        | inr at ↦
            let same : k ≡ l = omega arith in
            inl (ap (λ n. place_in order (first + n)) same ∙ sym place_is)
      ]);
    }

pub returns-clause-on : goal.returns-clause-on
returns-clause-on c = λ k.
    elim (c.loop-l.invariant.on k) [
      | inl same ↦ subst (RunsOn (run_at c.args.runs.now k)) (sym same) (runs_on_itself (run_at c.args.runs.now k))
      | inr ran ↦ runs_on_ended (run_at c.args.runs.now k) (run_at c.loop-l.runs k) ran
    ]

pub returns-clause-ended : goal.returns-clause-ended
returns-clause-ended c = λ p low high.
    let there : c.args.first + (p - c.args.first) ≡ p = omega arith in
    subst (λ (n : ℕ). (run_at c.loop-l.runs (place_in c.args.order.now n)).left ≡ 0) there (c.loop-l.invariant.ended (p - c.args.first) (omega arith))
