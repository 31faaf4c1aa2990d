use Rattle.std.proofs.Common.{◌∙◌, ap, sym, refl, None, get_or, []}
use Rattle.std.specs.FinMap.{FinMap, from_entries}
use Rattle.std.specs.FinMap.Entries.{find}
use Rattle.std.specs.Ordering.{nat_cmp}
use Rattle.su_bytes.specs.Place.{place_cmp}
use Rattle.su_bytes.specs.Principal.{is_user}
use Rattle.su_node.specs.Digest.{inode_digest}
use Rattle.su_node.specs.Inode.{Inode}
use Rattle.su_node.specs.InodeChange.{InodeChange.Copied}
use Rattle.su_node.specs.Field.{Field.KindOf}
use Rattle.su_table.specs.Query.{is_nothing}
use Rattle.su_table.proofs.KeptTables.{kept_absent, kept_put, kept_same, number_within, put_and_taken, user_is}
use Rattle.su_table.proofs.Stores.{edit-Inodes, get-inodes, val-At, OnErr-always}
use Rattle.su_table.proofs.forests.Forest.exchange_inode.Goals as goal

pub put-requires : goal.put-requires
put-requires c = number_within inode_digest is_user c.self.inside.inodes.entries c.self.inside.digests c.number.result c.args.place c.self.invariant.0 c.number.ensures.value (user_is _ _ c.number.ensures.value c.number.ensures.range)

pub invariant_of-self-in_default : goal.invariant_of-self-in_default
invariant_of-self-in_default c = (
  kept_put inode_digest is_user c.self.inside.inodes.entries c.insert.new.self.entries c.self.inside.digests c.put.new.self c.number.result c.args.place c.args.inode c.digest-digest.result c.self.invariant.0 c.number.ensures.value
      (user_is _ _ c.number.ensures.value c.number.ensures.range) c.in_ok-was.ensures.updates.0 c.digest-digest.ensures c.in_default.ensures.ok,
  c.self.invariant.1,
)

-- nothing stood at the place, and the inode that was put there was taken away again
pub invariant_of-self-in-Err : goal.invariant_of-self-in-Err
invariant_of-self-in-Err c =
    let es = c.self.inside.inodes.entries in
    let is = user_is _ _ c.number.ensures.value c.number.ensures.range in
    let none = kept_absent inode_digest is_user es c.self.inside.digests c.args.place c.self.invariant.0 is
    (ap (λ u. find nat_cmp c.args.place.1 (get_or c.self.inside.digests u [])) (sym c.number.ensures.value) ∙ c.in-Err.ensures.absent) in
    let same = put_and_taken es c.insert.new.self.entries c.remove.new.self.entries c.args.place c.args.inode none c.in_ok-was.ensures.updates.0 c.remove.ensures.updates.0 in
    (kept_same inode_digest is_user es c.remove.new.self.entries c.self.inside.digests c.put.new.self c.self.invariant.0 same c.in-Err.ensures.err, c.self.invariant.1)

pub returns-in-Err-clause-err : goal.returns-in-Err-clause-err
returns-in-Err-clause-err c =
    let es = c.self.inside.inodes.entries in
    let is = user_is _ _ c.number.ensures.value c.number.ensures.range in
    let none = kept_absent inode_digest is_user es c.self.inside.digests c.args.place c.self.invariant.0 is
    (ap (λ u. find nat_cmp c.args.place.1 (get_or c.self.inside.digests u [])) (sym c.number.ensures.value) ∙ c.in-Err.ensures.absent) in
    let same = put_and_taken es c.insert.new.self.entries c.remove.new.self.entries c.args.place c.args.inode none c.in_ok-was.ensures.updates.0 c.remove.ensures.updates.0 in
    ap (λ (m : FinMap place_cmp Inode). record { inodes = m; pointers = from_entries c.self.inside.pointers.entries }) same ∙ c.self.view_is

pub returns-in-Err-clause-absent : goal.returns-in-Err-clause-absent
returns-in-Err-clause-absent c =
    let es = c.self.inside.inodes.entries in
    let is = user_is _ _ c.number.ensures.value c.number.ensures.range in
    let none = kept_absent inode_digest is_user es c.self.inside.digests c.args.place c.self.invariant.0 is
    (ap (λ u. find nat_cmp c.args.place.1 (get_or c.self.inside.digests u [])) (sym c.number.ensures.value) ∙ c.in-Err.ensures.absent) in
    ap is_nothing (val-At es _ c.args.self.now c.self.view_is c.args.place KindOf None (sym none))

pub returns-clause-ok : goal.returns-clause-ok
returns-clause-ok c = edit-Inodes c.self.inside.inodes.entries _ _ _ c.self.view_is c.args.place (Copied c.args.inode) _ c.in_ok-was.ensures.updates.0 refl

pub returns-clause-was : goal.returns-clause-was
returns-clause-was c = sym (get-inodes c.self.inside.inodes.entries _ _ c.self.view_is c.args.place _ c.in_ok-was.ensures.old)

pub returns-in_err-was-clause-absent : goal.returns-in_err-was-clause-absent
returns-in_err-was-clause-absent c = OnErr-always c.from_residual.result
    (ap is_nothing (val-At c.self.inside.inodes.entries _ c.args.self.now c.self.view_is c.args.place KindOf _ (sym c.in_err-was.ensures.absent)))
