use Rattle.std.proofs.Common.{refl}
use Rattle.su_node.specs.InodeChange.{InodeChange.Gone}
use Rattle.su_bytes.specs.Principal.{is_user}
use Rattle.su_node.specs.Digest.{inode_digest}
use Rattle.su_table.proofs.KeptTables.{kept_taken, number_within, user_is}
use Rattle.su_table.proofs.Stores.{edit-Inodes}
use Rattle.su_table.proofs.forests.Forest.remove_inode.Goals as goal

pub returns : goal.returns
returns c = edit-Inodes c.self.inside.inodes.entries _ _ _ c.self.view_is c.args.place Gone _ c.remove.ensures.updates.0 refl

pub remove-requires-2 : goal.remove-requires-2
remove-requires-2 c = number_within inode_digest is_user c.self.inside.inodes.entries c.self.inside.digests c.number.result c.args.place c.self.invariant.0 c.number.ensures.value (user_is _ _ c.number.ensures.value c.number.ensures.range)

pub invariant_of-self : goal.invariant_of-self
invariant_of-self c = (
  kept_taken inode_digest is_user c.self.inside.inodes.entries c.remove.new.self.entries c.self.inside.digests c.remove-2.new.self c.number.result c.args.place c.self.invariant.0 c.number.ensures.value
      (user_is _ _ c.number.ensures.value c.number.ensures.range) c.remove.ensures.updates.0 c.remove-2.ensures,
  c.self.invariant.1,
)
