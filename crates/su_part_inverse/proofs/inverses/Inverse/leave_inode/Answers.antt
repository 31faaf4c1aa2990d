use Rattle.std.proofs.Common.{sym}
use Rattle.std.proofs.lemmas.Bool.{ltb-true}
use Rattle.su_part_forest.proofs.Asked.{part_got}
use Rattle.su_part_inverse.proofs.LeaveLemmas.{inode_left}
use Rattle.su_part_inverse.proofs.inverses.Inverse.leave_inode.Goals as goal

pub returns-in-Some : goal.returns-in-Some
returns-in-Some g c =
    let i = c.args.self.now in
    let p = c.in-Some.kept.now in
    let got = sym (part_got i.inodes.items c.args.at p (ltb-true _ _ (sym c.in-Some.ensures.item.0)) c.in-Some.ensures.value) in
    record { leaves = inode_left g.S.BlockSource.failed g.S.BlockSource.puts i c.args.at p c.shed.new.self c.args.source.now c.shed.new.source c.shed.result got c.shed.ensures.sheds }
