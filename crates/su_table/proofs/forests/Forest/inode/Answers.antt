use Rattle.std.proofs.Common.{sym}
use Rattle.su_table.proofs.Stores.{get-inodes}
use Rattle.su_table.proofs.forests.Forest.inode.Goals as goal

pub returns : goal.returns
returns c = sym (get-inodes c.self.inside.inodes.entries _ _ c.self.view_is (c.args.user, c.args.number) _ c.get.ensures.value)
