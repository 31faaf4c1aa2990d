use Rattle.std.proofs.Common.{◌+◌, ◌/◌, ◌%◌, refl, ◌∙◌, arith}
use Rattle.std.proofs.lemmas.List.{length-set}
use Rattle.sha_lanes.specs.Run.{run_at}
use Rattle.su_lms.proofs.ChainRuns.{AtSeed, at_private_value, set_next}
use Rattle.su_lms.proofs.chains.set_private_values.Goals as goal

pub loop-k-preserved : goal.loop-k-preserved
loop-k-preserved c = record {
  size = length-set c.loop-k.runs c.loop-k.k _ ∙ c.loop-k.invariant.size;
  each = set_next (λ j. AtSeed c.args.id.now c.args.seed.now (c.args.q + j / c.args.count) (j % c.args.count)) c.loop-k.runs c.loop-k.k _ (omega (arith, c.loop-k.invariant.size)) c.loop-k.invariant.each
      record { id = refl; leaf = refl; chain = refl; step = refl; left = refl; value = refl };
}

pub returns : goal.returns
returns c = λ k low.
    at_private_value c.args.id.now c.args.seed.now (c.args.q + k / c.args.count) (k % c.args.count) (run_at c.loop-k.runs k) (run_at c.run_chains.new.runs k)
    (c.loop-k.invariant.each k (omega arith)) (c.run_chains.ensures k (omega (arith, c.loop-k.invariant.size)))
