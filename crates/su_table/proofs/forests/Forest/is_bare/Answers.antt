use Rattle.std.proofs.Common.{◌∙◌, ap, sym}
use Rattle.su_node.specs.Inode.{has_no_names}
use Rattle.su_table.specs.Query.{is_bare_at}
use Rattle.su_table.proofs.Stores.{get-inodes}
use Rattle.su_table.proofs.forests.Forest.is_bare.Goals as goal

pub returns-in-Some : goal.returns-in-Some
unfolding is_bare_at
returns-in-Some c = c.is_bare.ensures ∙ sym (ap has_no_names (get-inodes c.self.inside.inodes.entries _ _ c.self.view_is c.args.place _ c.in-Some.ensures.value))

pub returns-in-None : goal.returns-in-None
unfolding is_bare_at
returns-in-None c = sym (ap has_no_names (get-inodes c.self.inside.inodes.entries _ _ c.self.view_is c.args.place _ c.in-None.ensures.value))
