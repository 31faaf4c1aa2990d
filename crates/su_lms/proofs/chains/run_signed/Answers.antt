use Rattle.std.proofs.Common.{◌≡◌, ap, ◌∙◌, arith}
use Rattle.std.proofs.lemmas.List.{length-set, get_or_default}
use Rattle.sha_lanes.specs.declared.runs.ChainRun.{ChainRun}
use Rattle.sha_lanes.specs.Run.{end_of, idle, run_at}
use Rattle.su_lms.specs.ParameterSets.{width_of}
use Rattle.su_lms.specs.Strings.{coef}
use Rattle.su_lms.specs.Runs.{value_after}
use Rattle.su_lms.proofs.ChainRuns.{set_behind, set_next}
use Rattle.su_lms.proofs.Widths.{digits_suffice}
use Rattle.su_lms.proofs.chains.run_signed.Goals as goal

pub coef-requires-clause-inside : goal.coef-requires-clause-inside
coef-requires-clause-inside c =
    rw c.told-digits
    (digits_suffice c.args.ots c.requires.listed.0 c.requires.listed.1 c.loop-i.i (omega arith))

pub loop-i-preserved : goal.loop-i-preserved
loop-i-preserved c = record {
  size = length-set c.loop-i.runs c.loop-i.i _ ∙ c.loop-i.invariant.size;
  each = set_next (λ j run. end_of run ≡ value_after (run_at c.args.runs.now j) (coef c.args.digits.now j (width_of c.args.ots))) c.loop-i.runs c.loop-i.i _ (omega (arith, c.loop-i.invariant.size)) c.loop-i.invariant.each
      (c.from_start.ensures ∙ ap (λ (run : ChainRun). value_after run c.coef.result) (get_or_default c.loop-i.runs c.loop-i.i c.index-runs-i.result idle (omega (arith, c.loop-i.invariant.size)) ∙ c.loop-i.invariant.others c.loop-i.i (omega arith))
      ∙ ap (value_after (run_at c.args.runs.now c.loop-i.i)) c.coef.ensures.value);
  others = set_behind c.args.runs.now c.loop-i.runs c.loop-i.i _ c.loop-i.invariant.others;
}

pub returns : goal.returns
returns c = λ k low.
    (c.run_chains.ensures k (omega (arith, c.loop-i.invariant.size))).value ∙ c.loop-i.invariant.each k (omega arith)
