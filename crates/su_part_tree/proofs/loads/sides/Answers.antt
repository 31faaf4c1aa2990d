use Rattle.std.proofs.Common.{arith}
use Rattle.su_part_tree.proofs.Loading.{two_halves}
use Rattle.su_part_tree.proofs.loads.sides.Goals as goal

pub returns : goal.returns
returns c = rw (c.digest_at.ensures, c.digest_at-2.ensures) (two_halves c.args.bytes.now (omega (arith, c.if-bytes-ne64.false)))
