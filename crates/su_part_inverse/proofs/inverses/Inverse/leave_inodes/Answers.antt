use Rattle.std.specs.Prelude.{Ok}
use Rattle.std.proofs.lemmas.Result.{err_from_is_err_and}
use Rattle.su_part_inverse.proofs.LeaveLemmas.{leaves_as, leaves_on}
use Rattle.su_part_inverse.proofs.inverses.Inverse.leave_inodes.Goals as goal

pub loop-at-preserved : goal.loop-at-preserved
loop-at-preserved g c =
    leaves_as c.args.self.now c.leave_inode.new.self c.args.source.now c.leave_inode.new.source c.leave_inode.result (Ok tt)
    (leaves_on g.met.S.BlockSource.follows_on c.args.self.now c.loop-at.self c.leave_inode.new.self c.args.source.now c.loop-at.source c.leave_inode.new.source (Ok tt) c.leave_inode.result c.loop-at.invariant
    c.leave_inode.ensures.leaves)
    tt

pub returns-in_err-leave_inode : goal.returns-in_err-leave_inode
returns-in_err-leave_inode g c =
    let p = err_from_is_err_and c.from_residual.result c.from_residual.ensures.1 in
    let all = leaves_on g.met.S.BlockSource.follows_on c.args.self.now c.loop-at.self c.leave_inode.new.self c.args.source.now c.loop-at.source c.leave_inode.new.source (Ok tt) c.leave_inode.result c.loop-at.invariant
    c.leave_inode.ensures.leaves in
    record { leaves = leaves_as c.args.self.now c.leave_inode.new.self c.args.source.now c.leave_inode.new.source c.leave_inode.result c.from_residual.result all (rw (p.1, p.2) c.in_err-leave_inode.ensures.leaves.refused) }
