use Rattle.std.proofs.Common.{◌∙◌, ap, sym, refl, None}
use Rattle.std.specs.Option.{is_some}
use Rattle.su_bytes.specs.Principal.{is_user}
use Rattle.su_node.specs.Digest.{inode_digest}
use Rattle.su_node.specs.InodeChange.{InodeChange.Named, inode_after}
use Rattle.su_table.proofs.KeptTables.{kept_put, number_there, number_within, user_is}
use Rattle.su_table.proofs.Stores.{edit-Inodes, edit-Inodes_absent}
use Rattle.su_table.proofs.forests.Forest.remove_name.Goals as goal

pub returns-in-Some : goal.returns-in-Some
returns-in-Some c =
    let found = c.in-Some.ensures.value in
    let ch = Named c.args.name.now None in
    edit-Inodes c.self.inside.inodes.entries _ _ _ c.self.view_is c.args.place ch _
    ((c.get_mut.follows.holds c.name_remove.new.self).3 (ap is_some (sym found))).0 (ap (inode_after ch) (sym found) ∙ c.name_remove.ensures)

pub returns-in_default : goal.returns-in_default
returns-in_default c = rw c.get_mut.follows.holds-at-none (edit-Inodes_absent c.self.inside.inodes.entries _ _ c.self.view_is c.args.place (Named c.args.name.now None) (sym c.in_default.ensures.value) refl)

pub set-requires-clause-within : goal.set-requires-clause-within
set-requires-clause-within c = number_within inode_digest is_user c.self.inside.inodes.entries c.self.inside.digests c.number.result c.args.place c.self.invariant.0 c.number.ensures.value (user_is _ _ c.number.ensures.value c.number.ensures.range)

pub set-requires-clause-there : goal.set-requires-clause-there
set-requires-clause-there c = number_there inode_digest is_user c.self.inside.inodes.entries c.self.inside.digests c.number.result c.args.place c.in-Some.inode.now c.self.invariant.0 c.number.ensures.value (user_is _ _ c.number.ensures.value c.number.ensures.range) c.in-Some.ensures.value

pub invariant_of-self : goal.invariant_of-self
invariant_of-self c = (
  kept_put inode_digest is_user c.self.inside.inodes.entries _ c.self.inside.digests c.set.new.self c.number.result c.args.place c.name_remove.new.self c.digest-digest.result c.self.invariant.0 c.number.ensures.value
      (user_is _ _ c.number.ensures.value c.number.ensures.range) ((c.get_mut.follows.holds c.name_remove.new.self).3 (ap is_some (sym c.in-Some.ensures.value))).0 c.digest-digest.ensures c.set.ensures.value,
  c.self.invariant.1,
)
