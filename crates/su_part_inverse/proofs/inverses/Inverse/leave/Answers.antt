use Rattle.su_part_inverse.proofs.LeaveLemmas.{leaves_on}
use Rattle.su_part_inverse.proofs.inverses.Inverse.leave.Goals as goal

pub returns : goal.returns
returns g c = record {
  leaves = leaves_on g.met.S.BlockSource.follows_on c.args.self.now c.leave_inodes.new.self c.leave_blocks.new.self c.args.source.now c.leave_inodes.new.source c.leave_blocks.new.source
      c.leave_inodes.result c.leave_blocks.result c.leave_inodes.ensures.leaves c.leave_blocks.ensures.leaves;
}
