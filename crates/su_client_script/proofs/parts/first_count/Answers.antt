use Rattle.std.proofs.Common.{arith}
use Rattle.su_client_script.proofs.Cutting.{counted}
use Rattle.su_client_script.proofs.parts.first_count.Goals as goal

pub returns-then-batches-clause-first : goal.returns-then-batches-clause-first
returns-then-batches-clause-first c = rw c.if-batches.true (counted c.args.operations.now c.longest_head.result c.max.result c.longest_head.ensures (λ none. omega arith) (λ some. omega arith))
