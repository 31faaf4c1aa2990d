use Rattle.su_part_tree.proofs.Loading.{all_of}
use Rattle.su_part_tree.proofs.items.DigestReadValue.read.Goals as goal

pub returns : goal.returns
returns c = rw c.digest_at.ensures (all_of c.args.bytes.now c.if-bytes-ne32.false)
