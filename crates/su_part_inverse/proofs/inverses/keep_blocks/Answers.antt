use Rattle.std.proofs.Common.{◌≡◌, false, true}
use Rattle.su_part_inverse.proofs.Reading.{run_bytes}
use Rattle.su_part_inverse.proofs.inverses.keep_blocks.Goals as goal

pub returns-then-not-has_bytes-clause-loaded : goal.returns-then-not-has_bytes-clause-loaded
returns-then-not-has_bytes-clause-loaded c i s meant has = absurd (let z : false ≡ true = c.if-not-has_bytes.ensures.1 (run_bytes c.args.run c.args.inode.now i s meant has) in cc)
