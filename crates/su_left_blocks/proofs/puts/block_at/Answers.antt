use Rattle.std.proofs.Common.{arith}
use Rattle.su_left_blocks.proofs.PutLemmas.{block_part}
use Rattle.su_left_blocks.proofs.puts.block_at.Goals as goal

pub returns : goal.returns
returns c = block_part c.args.number _ _ c.args.bytes.now (omega arith) (omega arith)
