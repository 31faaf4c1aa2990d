use Rattle.std.proofs.Common.{◌∙◌, ap, sym, refl, Some, ◌≡◌, arith}
use Rattle.std.specs.FinMap.{from_entries}
use Rattle.std.specs.Option.{is_some}
use Rattle.std.proofs.lemmas.Map.Steps.{set_value_same}
use Rattle.su_bytes.specs.Principal.{is_user}
use Rattle.su_node.specs.Digest.{inode_digest}
use Rattle.su_table.proofs.KeptTables.{kept_put, kept_same, number_there, number_within, user_is}
use Rattle.su_node.specs.InodeChange.{InodeChange.Resized, inode_after}
use Rattle.std.proofs.lemmas.Bool.{false≢true}
use Rattle.su_node.specs.Inode.{size_of}
use Rattle.su_node.specs.Field.{Field.SizeOf}
use Rattle.su_table.specs.Query.{size_at, value_number}
use Rattle.su_table.proofs.Stores.{val-At, edit-Inodes, edit-Inodes_absent, OnErr-always}
use Rattle.su_table.proofs.forests.Forest.resize.Goals.{in-Some+in_ok-resize, in_default}
use Rattle.su_table.proofs.forests.Forest.resize.Goals as goal

-- nothing was written: the inode that was lent goes back
pub returns-in_err-resize-clause-err : goal.returns-in_err-resize-clause-err
returns-in_err-resize-clause-err c =
    let lent = c.resize.new.self in
    let same = (c.get_mut.follows.holds lent).0 ∙ set_value_same _ c.self.inside.inodes.entries lent (sym c.in-Some.ensures.value ∙ ap Some (sym c.in_err-resize.ensures.err)) in
    OnErr-always c.from_residual.result (ap (λ es. record { inodes = from_entries es; pointers = from_entries c.self.inside.pointers.entries }) same ∙ c.self.view_is)

pub returns-clause-ok : goal.returns-clause-ok
returns-clause-ok c = elim c.match-get_mut.branch [
  | in-Some+in_ok-resize w ↦
      let found = w.in-Some.ensures.value in
      let ch = Resized (size_at c.args.self.now c.args.place) c.args.size in
      w.self-is ∙ (edit-Inodes c.self.inside.inodes.entries _ _ _ c.self.view_is c.args.place ch _
      ((c.get_mut.follows.holds w.resize.new.self).3 (ap is_some (sym found))).0 (ap (inode_after ch) (sym found) ∙ w.in_ok-resize.ensures.ok))
  | in_default w ↦ rw (w.self-is, c.get_mut.follows.holds-at-none) (edit-Inodes_absent c.self.inside.inodes.entries _ _ c.self.view_is c.args.place (Resized (size_at c.args.self.now c.args.place) c.args.size) (sym w.in_default.ensures.value) refl)
]

pub returns-in_err-resize-clause-succeeds : goal.returns-in_err-resize-clause-succeeds
returns-in_err-resize-clause-succeeds c = λ within.
    let size : size_at c.args.self.now c.args.place ≡ size_of c.in-Some.inode.now.content = ap value_number (val-At c.self.inside.inodes.entries _ c.args.self.now c.self.view_is c.args.place SizeOf _ c.in-Some.ensures.value) in
    absurd (false≢true (c.in_err-resize.ensures.succeeds (omega (arith, within, size))))

pub set-requires-clause-within : goal.set-requires-clause-within
set-requires-clause-within c = number_within inode_digest is_user c.self.inside.inodes.entries c.self.inside.digests c.number.result c.args.place c.self.invariant.0 c.number.ensures.value (user_is _ _ c.number.ensures.value c.number.ensures.range)

pub set-requires-clause-there : goal.set-requires-clause-there
set-requires-clause-there c = number_there inode_digest is_user c.self.inside.inodes.entries c.self.inside.digests c.number.result c.args.place c.in-Some.inode.now c.self.invariant.0 c.number.ensures.value (user_is _ _ c.number.ensures.value c.number.ensures.range) c.in-Some.ensures.value

pub invariant_of-self-in-Some : goal.invariant_of-self-in-Some
invariant_of-self-in-Some c = (
  kept_put inode_digest is_user c.self.inside.inodes.entries _ c.self.inside.digests c.set.new.self c.number.result c.args.place c.resize.new.self c.digest-digest.result c.self.invariant.0 c.number.ensures.value
      (user_is _ _ c.number.ensures.value c.number.ensures.range) ((c.get_mut.follows.holds c.resize.new.self).3 (ap is_some (sym c.in-Some.ensures.value))).0 c.digest-digest.ensures c.set.ensures.value,
  c.self.invariant.1,
)

pub invariant_of-self : goal.invariant_of-self
invariant_of-self c =
    let lent = c.resize.new.self in
    let same = (c.get_mut.follows.holds lent).0 ∙ set_value_same _ c.self.inside.inodes.entries lent (sym c.in-Some.ensures.value ∙ ap Some (sym c.in_err-resize.ensures.err)) in
    (kept_same inode_digest is_user c.self.inside.inodes.entries _ c.self.inside.digests _ c.self.invariant.0 (ap from_entries same) refl, c.self.invariant.1)
