use Rattle.std.proofs.Common.{◌≡◌, ◌∙◌, inl, inr, false, true, refl, sym, ap, subst, IsTrue, Some}
use Rattle.std.specs.Prelude.{IsSome}
use Rattle.std.specs.Option.{is_some}
use Rattle.su_tree.specs.Number.{number_bits}
use Rattle.su_hash_tree.specs.Edits.{with_value}
use Rattle.su_part_tree.specs.Part.{StandsFor, reaches}
use Rattle.su_node.specs.InodeChange.{InodeChange.Copied}
use Rattle.su_table.specs.Edit.{Edit.Inodes, edit}
use Rattle.su_table.specs.Handle.{user_table}
use Rattle.su_part.specs.Bytes.{number_sort}
use Rattle.su_part.specs.Known.{KnowsInode}
use Rattle.su_part.specs.declared.users.UserPart.{UserPart}
use Rattle.su_part.specs.Part.{StandsInode, StandsUser, at_number}
use Rattle.su_part.proofs.KnownLemmas.{inode_known}
use Rattle.su_part.proofs.UserLemmas.{in_user_table, put_there, put_user, small_number}
use Rattle.su_part.proofs.users.UserPart.exchange_inode.Goals as goal

pub returns-in-Some-clause-ok : goal.returns-in-Some-clause-ok
returns-in-Some-clause-ok c u T i h known stands good =
    let key = c.number-key.result in
    let small = small_number key c.number-key.ensures.range.1 in
    let found = c.in-Some.ensures.value in
    let new = c.replace-old.new.dest in
    let after : UserPart = record { table = c.set.new.self; inodes = c.get_mut.follows.lender new; alloc = c.args.self.now.alloc } in
    let path = inode_known u key T c.args.self.now h (subst (λ n. KnowsInode u T n c.args.self.now) (sym c.number-key.ensures.value) known) in
    let put = subst (λ d. StandsFor number_sort c.set.new.self (with_value number_bits key d (user_table T u))) (c.digest-digest.ensures i stands)
    (c.set.ensures.stands (user_table T u) h.table path (in_user_table u key T c.args.self.now c.in-Some.place.now h small found)) in
    subst (λ n. StandsUser u after (edit T (Inodes (u, n) (Copied i)))) c.number-key.ensures.value
    (put_user (Copied i) i (λ o. refl) good u key T c.args.self.now after new h small (subst (λ x. StandsInode x i) (sym c.replace-old.ensures.after) stands) put
    ((c.get_mut.follows.holds new).3 (ap is_some (sym found))).0)

pub returns-in-Some-clause-there : goal.returns-in-Some-clause-there
returns-in-Some-clause-there c =
    let key = c.number-key.result in
    let new = c.replace-old.new.dest in
    let lent = c.get_mut.follows.lender new in
    subst (λ n. at_number lent.entries n ≡ Some c.args.inode) c.number-key.ensures.value
    (put_there c.args.self.now.inodes.entries lent.entries key new ((c.get_mut.follows.holds new).3 (ap is_some (sym c.in-Some.ensures.value))).0 ∙ ap Some c.replace-old.ensures.after)

pub put_in-requires : goal.put_in-requires
put_in-requires c = elim c.requires [
  | inl some ↦ absurd (let z : false ≡ true = subst IsSome (sym (c.in_default.ensures.value ∙ ap (at_number c.args.self.now.inodes.entries) c.number-key.ensures.value)) some in cc)
  | inr path ↦ subst (λ n. IsTrue (reaches number_bits n c.args.self.now.table)) (sym c.number-key.ensures.value) path
]

pub returns-clause-ok : goal.returns-clause-ok
returns-clause-ok c u T i h known stands good =
    let key = c.number-key.result in
    let after : UserPart = record { table = c.put_in.new.self; inodes = c.insert.new.self; alloc = c.args.self.now.alloc } in
    let put = subst (λ d. StandsFor number_sort c.put_in.new.self (with_value number_bits key d (user_table T u))) (c.digest-digest.ensures i stands) (c.put_in.ensures.stands (user_table T u) h.table) in
    subst (λ n. StandsUser u after (edit T (Inodes (u, n) (Copied i)))) c.number-key.ensures.value
    (put_user (Copied i) i (λ o. refl) good u key T c.args.self.now after c.args.inode h (small_number key c.number-key.ensures.range.1) stands put (rw c.get_mut.follows.holds-at-none at c.in_ok-insert.ensures.updates.0))

pub returns-clause-there : goal.returns-clause-there
returns-clause-there c =
    let key = c.number-key.result in
    subst (λ n. at_number c.insert.new.self.entries n ≡ Some c.args.inode) c.number-key.ensures.value
    (put_there c.args.self.now.inodes.entries c.insert.new.self.entries key c.args.inode (rw c.get_mut.follows.holds-at-none at c.in_ok-insert.ensures.updates.0))
