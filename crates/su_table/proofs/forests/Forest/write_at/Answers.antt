use Rattle.std.proofs.Common.{◌≡◌, ◌∙◌, ap, sym, refl, Some, length, arith}
use Rattle.std.proofs.lemmas.Bool.{false≢true}
use Rattle.su_node.specs.Cost.{hashes_of_write}
use Rattle.su_node.specs.Inode.{size_of}
use Rattle.su_node.specs.Field.{Field.SizeOf}
use Rattle.std.specs.FinMap.{from_entries}
use Rattle.std.specs.Option.{is_some}
use Rattle.std.proofs.lemmas.Map.Steps.{set_value_same}
use Rattle.su_bytes.specs.Principal.{is_user}
use Rattle.su_node.specs.Digest.{inode_digest}
use Rattle.su_table.proofs.KeptTables.{kept_put, kept_same, number_there, number_within, user_is}
use Rattle.su_node.specs.InodeChange.{InodeChange.Written, inode_after}
use Rattle.su_table.specs.Query.{value_number, size_at}
use Rattle.su_table.proofs.Stores.{edit-Inodes, edit-Inodes_absent, OnErr-always, val-At}
use Rattle.su_table.proofs.forests.Forest.write_at.Goals.{in-Some+in_ok-content, in_default}
use Rattle.su_table.proofs.forests.Forest.write_at.Goals as goal

-- nothing was written: the inode that was lent goes back
pub returns-in_err-content-clause-err : goal.returns-in_err-content-clause-err
returns-in_err-content-clause-err c =
    let lent = c.write_at.new.self in
    let same = (c.get_mut.follows.holds lent).0 ∙ set_value_same _ c.self.inside.inodes.entries lent (sym c.in-Some.ensures.value ∙ ap Some (sym c.in_err-content.ensures.err)) in
    OnErr-always c.from_residual.result (ap (λ es. record { inodes = from_entries es; pointers = from_entries c.self.inside.pointers.entries }) same ∙ c.self.view_is)

pub returns-clause-ok : goal.returns-clause-ok
returns-clause-ok c = elim c.match-get_mut.branch [
  | in-Some+in_ok-content w ↦
      let found = w.in-Some.ensures.value in
      let ch = Written (size_at c.args.self.now c.args.place) c.args.off c.args.bytes.now in
      w.self-is ∙ (edit-Inodes c.self.inside.inodes.entries _ _ _ c.self.view_is c.args.place ch _
      ((c.get_mut.follows.holds w.write_at.new.self).3 (ap is_some (sym found))).0 (ap (inode_after ch) (sym found) ∙ w.in_ok-content.ensures.ok))
  | in_default w ↦ rw (w.self-is, c.get_mut.follows.holds-at-none) (edit-Inodes_absent c.self.inside.inodes.entries _ _ c.self.view_is c.args.place (Written (size_at c.args.self.now c.args.place) c.args.off c.args.bytes.now) (sym w.in_default.ensures.value) refl)
]

pub returns-in_err-content-clause-succeeds : goal.returns-in_err-content-clause-succeeds
returns-in_err-content-clause-succeeds c = λ within.
    let size : size_at c.args.self.now c.args.place ≡ size_of c.in-Some.inode.now.content = ap value_number (val-At c.self.inside.inodes.entries _ c.args.self.now c.self.view_is c.args.place SizeOf _ c.in-Some.ensures.value) in
    absurd (false≢true (c.in_err-content.ensures.succeeds (omega (arith, within, size))))

pub set-path-requires-clause-within : goal.set-path-requires-clause-within
set-path-requires-clause-within c = number_within inode_digest is_user c.self.inside.inodes.entries c.self.inside.digests c.number.result c.args.place c.self.invariant.0 c.number.ensures.value (user_is _ _ c.number.ensures.value c.number.ensures.range)

pub set-path-requires-clause-there : goal.set-path-requires-clause-there
set-path-requires-clause-there c = number_there inode_digest is_user c.self.inside.inodes.entries c.self.inside.digests c.number.result c.args.place c.in-Some.inode.now c.self.invariant.0 c.number.ensures.value (user_is _ _ c.number.ensures.value c.number.ensures.range) c.in-Some.ensures.value

pub invariant_of-self-in-Some : goal.invariant_of-self-in-Some
invariant_of-self-in-Some c = (
  kept_put inode_digest is_user c.self.inside.inodes.entries _ c.self.inside.digests c.set-path.new.self c.number.result c.args.place c.write_at.new.self c.digest-written.result c.self.invariant.0 c.number.ensures.value
      (user_is _ _ c.number.ensures.value c.number.ensures.range) ((c.get_mut.follows.holds c.write_at.new.self).3 (ap is_some (sym c.in-Some.ensures.value))).0 c.digest-written.ensures c.set-path.ensures.value,
  c.self.invariant.1,
)

pub invariant_of-self : goal.invariant_of-self
invariant_of-self c =
    let lent = c.write_at.new.self in
    let same = (c.get_mut.follows.holds lent).0 ∙ set_value_same _ c.self.inside.inodes.entries lent (sym c.in-Some.ensures.value ∙ ap Some (sym c.in_err-content.ensures.err)) in
    (kept_same inode_digest is_user c.self.inside.inodes.entries _ c.self.inside.digests _ c.self.invariant.0 (ap from_entries same) refl, c.self.invariant.1)

pub returns-clause-hashes : goal.returns-clause-hashes
returns-clause-hashes c = λ bits small still. elim c.match-get_mut.branch [
  | in-Some+in_ok-content w ↦
      let size : size_at c.args.self.now c.args.place ≡ size_of w.in-Some.inode.now.content = ap value_number (val-At c.self.inside.inodes.entries _ c.args.self.now c.self.view_is c.args.place SizeOf _ w.in-Some.ensures.value) in
      let cost = ap (λ s. hashes_of_write bits s c.args.off (length c.args.bytes.now)) size in
      let made = w.in_ok-content.ensures.hashes bits (omega (arith, size, small)) still in
      omega (arith, cost, made, w.set-path.ensures.hashes, w.saturating_add-hashes.ensures, w.hashes-is)
  | in_default w ↦ omega (arith, w.hashes-is)
]
