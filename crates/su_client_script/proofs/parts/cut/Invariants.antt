use Rattle.std.proofs.Common.{length}
use Rattle.su_client_script.proofs.Cutting.{IsCutTo}
use Rattle.su_client_script.proofs.parts.cut.Given as goal

abbrev pub invariant-loop-parts : goal.invariant-loop-parts
invariant-loop-parts l = IsCutTo l.batches l.fn.operations.items l.parts.items l.left.items

abbrev pub decreases-loop-parts : goal.decreases-loop-parts
decreases-loop-parts l = length l.left.items
