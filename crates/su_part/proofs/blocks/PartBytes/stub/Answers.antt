use Rattle.std.proofs.Common.{arith}
use Rattle.su_part.proofs.BytesLemmas.{left_bytes}
use Rattle.su_part.proofs.blocks.PartBytes.stub.Goals as goal

pub returns : goal.returns
returns c bs size is = left_bytes _ bs c.args.digest size (omega arith) is c.stub.ensures c.new.ensures.empty
