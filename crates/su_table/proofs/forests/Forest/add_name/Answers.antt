use Rattle.std.proofs.Common.{◌∙◌, ap, sym, refl, Some}
use Rattle.std.specs.FinMap.{from_entries}
use Rattle.std.specs.Option.{is_some}
use Rattle.std.proofs.lemmas.Map.Steps.{set_value_same}
use Rattle.su_bytes.specs.Principal.{is_user}
use Rattle.su_node.specs.Digest.{inode_digest}
use Rattle.su_table.proofs.KeptTables.{kept_put, kept_same, number_there, number_within, user_is}
use Rattle.su_node.specs.InodeChange.{InodeChange.Named, inode_after}
use Rattle.su_node.specs.Field.{Field.NameOf}
use Rattle.su_table.specs.Query.{is_nothing}
use Rattle.su_table.proofs.Stores.{edit-Inodes, edit-Inodes_absent, val-At, OnErr-always}
use Rattle.su_table.proofs.forests.Forest.add_name.Goals.{in-Some+in_ok-name_set, in_default}
use Rattle.su_table.proofs.forests.Forest.add_name.Goals as goal

-- nothing was written: the inode that was lent goes back
pub returns-in_err-name_set-clause-err : goal.returns-in_err-name_set-clause-err
returns-in_err-name_set-clause-err c =
    let lent = c.name_set.new.self in
    let same = (c.get_mut.follows.holds lent).0 ∙ set_value_same _ c.self.inside.inodes.entries lent (sym c.in-Some.ensures.value ∙ ap Some (sym c.in_err-name_set.ensures.err)) in
    OnErr-always c.from_residual.result (ap (λ es. record { inodes = from_entries es; pointers = from_entries c.self.inside.pointers.entries }) same ∙ c.self.view_is)

pub returns-clause-ok : goal.returns-clause-ok
returns-clause-ok c = elim c.match-get_mut.branch [
  | in-Some+in_ok-name_set w ↦
      let found = w.in-Some.ensures.value in
      let ch = Named c.args.name (Some c.args.file) in
      w.self-is ∙ (edit-Inodes c.self.inside.inodes.entries _ _ _ c.self.view_is c.args.place ch _
      ((c.get_mut.follows.holds w.name_set.new.self).3 (ap is_some (sym found))).0 (ap (inode_after ch) (sym found) ∙ w.in_ok-name_set.ensures.ok))
  | in_default w ↦ rw (w.self-is, c.get_mut.follows.holds-at-none) (edit-Inodes_absent c.self.inside.inodes.entries _ _ c.self.view_is c.args.place (Named c.args.name (Some c.args.file)) (sym w.in_default.ensures.value) refl)
]

pub returns-in_err-name_set-clause-absent : goal.returns-in_err-name_set-clause-absent
returns-in_err-name_set-clause-absent c = OnErr-always c.from_residual.result
    (ap is_nothing (val-At c.self.inside.inodes.entries _ c.args.self.now c.self.view_is c.args.place (NameOf c.args.name) _ c.in-Some.ensures.value ∙ c.in_err-name_set.ensures.absent))

pub set-requires-clause-within : goal.set-requires-clause-within
set-requires-clause-within c = number_within inode_digest is_user c.self.inside.inodes.entries c.self.inside.digests c.number.result c.args.place c.self.invariant.0 c.number.ensures.value (user_is _ _ c.number.ensures.value c.number.ensures.range)

pub set-requires-clause-there : goal.set-requires-clause-there
set-requires-clause-there c = number_there inode_digest is_user c.self.inside.inodes.entries c.self.inside.digests c.number.result c.args.place c.in-Some.inode.now c.self.invariant.0 c.number.ensures.value (user_is _ _ c.number.ensures.value c.number.ensures.range) c.in-Some.ensures.value

pub invariant_of-self-in-Some : goal.invariant_of-self-in-Some
invariant_of-self-in-Some c = (
  kept_put inode_digest is_user c.self.inside.inodes.entries _ c.self.inside.digests c.set.new.self c.number.result c.args.place c.name_set.new.self c.digest-digest.result c.self.invariant.0 c.number.ensures.value
      (user_is _ _ c.number.ensures.value c.number.ensures.range) ((c.get_mut.follows.holds c.name_set.new.self).3 (ap is_some (sym c.in-Some.ensures.value))).0 c.digest-digest.ensures c.set.ensures.value,
  c.self.invariant.1,
)

pub invariant_of-self : goal.invariant_of-self
invariant_of-self c =
    let lent = c.name_set.new.self in
    let same = (c.get_mut.follows.holds lent).0 ∙ set_value_same _ c.self.inside.inodes.entries lent (sym c.in-Some.ensures.value ∙ ap Some (sym c.in_err-name_set.ensures.err)) in
    (kept_same inode_digest is_user c.self.inside.inodes.entries _ c.self.inside.digests _ c.self.invariant.0 (ap from_entries same) refl, c.self.invariant.1)
