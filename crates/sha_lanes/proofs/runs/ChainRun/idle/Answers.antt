use Rattle.sha_lanes.specs.Run.{zeros_are_bytes}
use Rattle.sha_lanes.proofs.runs.ChainRun.idle.Goals as goal

pub invariant_of-result-clause-id_bytes : goal.invariant_of-result-clause-id_bytes
invariant_of-result-clause-id_bytes c = zeros_are_bytes 16

pub invariant_of-result-clause-value_bytes : goal.invariant_of-result-clause-value_bytes
invariant_of-result-clause-value_bytes c = zeros_are_bytes 32
