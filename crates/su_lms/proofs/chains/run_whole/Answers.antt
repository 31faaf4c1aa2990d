use Rattle.std.proofs.Common.{◌≡◌, ap, ◌∙◌, arith}
use Rattle.std.proofs.lemmas.List.{length-set, get_or_default}
use Rattle.sha_lanes.specs.declared.runs.ChainRun.{ChainRun}
use Rattle.sha_lanes.specs.Run.{end_of, idle, run_at}
use Rattle.su_lms.specs.Runs.{value_after}
use Rattle.su_lms.proofs.ChainRuns.{set_behind, set_next}
use Rattle.su_lms.proofs.chains.run_whole.Goals as goal

pub loop-k-preserved : goal.loop-k-preserved
loop-k-preserved c = record {
  size = length-set c.loop-k.runs c.loop-k.k _ ∙ c.loop-k.invariant.size;
  each = set_next (λ j run. end_of run ≡ value_after (run_at c.args.runs.now j) c.step_count-last.result) c.loop-k.runs c.loop-k.k _ (omega (arith, c.loop-k.invariant.size)) c.loop-k.invariant.each
      (c.from_start.ensures ∙ ap (λ (run : ChainRun). value_after run c.step_count-last.result) (get_or_default c.loop-k.runs c.loop-k.k c.index-runs-k.result idle (omega (arith, c.loop-k.invariant.size)) ∙ c.loop-k.invariant.others c.loop-k.k (omega arith)));
  others = set_behind c.args.runs.now c.loop-k.runs c.loop-k.k _ c.loop-k.invariant.others;
}

pub returns : goal.returns
returns c = λ k low.
    (c.run_chains.ensures k (omega (arith, c.loop-k.invariant.size))).value ∙ c.loop-k.invariant.each k (omega arith) ∙ ap (value_after (run_at c.args.runs.now k)) c.step_count-last.ensures
