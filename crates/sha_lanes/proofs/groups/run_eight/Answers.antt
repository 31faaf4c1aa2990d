use Rattle.std.proofs.Common.{slice_index}
use Rattle.sha_lanes.specs.Lanes.{HoldsValue}
use Rattle.sha_lanes.specs.Run.{run_at}
use Rattle.sha_lanes.specs.declared.runs.ChainRun.{ChainRun}
use Rattle.sha_lanes.proofs.Ends.{at_end}
use Rattle.sha_lanes.proofs.groups.run_eight.Goals as goal

pub ended-requires : goal.ended-requires
ended-requires c = λ l low.
    let run : ChainRun = run_at c.args.group.now l in
    at_end run (slice_index c.step_numbers.result l) (slice_index c.steps_left.result l) c.most_left.result
    (λ value. HoldsValue value l c.run-ends.result) (c.step_numbers.ensures l low) (c.steps_left.ensures l low) (c.most_left.ensures l low)
    (λ enough within. c.run-ends.ensures l low enough within _ _ (c.leaf_words.ensures l low _ (c.chain_numbers.ensures l low)) (c.value_words.ensures l low))
