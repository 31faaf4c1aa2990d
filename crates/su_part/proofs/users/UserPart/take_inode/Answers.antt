use Rattle.std.proofs.Common.{◌≡◌, ◌∙◌, false, sym, subst, inl, ap}
use Rattle.std.specs.BTreeMap.{is_at}
use Rattle.std.specs.Ordering.{nat_cmp}
use Rattle.std.specs.FinMap.{get}
use Rattle.su_node.specs.InodeChange.{InodeChange.Gone}
use Rattle.su_table.specs.Edit.{Edit.Inodes, edit}
use Rattle.su_table.specs.Handle.{user_table}
use Rattle.su_part.specs.declared.users.UserPart.{UserPart}
use Rattle.su_part.specs.Known.{KnowsInode, StaysKnown}
use Rattle.su_part.specs.Part.{StandsJust, StandsUser, at_number}
use Rattle.su_part.proofs.BytesLemmas.{is_number}
use Rattle.su_part.proofs.KnownLemmas.{inode_known, known_gone}
use Rattle.su_part.proofs.UserLemmas.{small_number, gone_user, gone_path, taken_out}
use Rattle.su_part.proofs.users.UserPart.take_inode.Goals as goal

pub returns-clause-value : goal.returns-clause-value
returns-clause-value c u T h there =
    let was = c.remove.ensures.value ∙ ap (at_number c.args.self.now.inodes.entries) c.number-key.ensures.value in
    subst (λ v. StandsJust v (get T.inodes (u, c.args.number))) (sym was) (taken_out (get T.inodes (u, c.args.number)) (at_number c.args.self.now.inodes.entries c.args.number) (h.inodes c.args.number) there)

pub returns-clause-stands : goal.returns-clause-stands
returns-clause-stands c u T h known =
    let key = c.number-key.result in
    let small = small_number key c.number-key.ensures.range.1 in
    let after : UserPart = record { table = c.take.new.self; inodes = c.remove.new.self; alloc = c.args.self.now.alloc } in
    let path = inode_known u key T c.args.self.now h (subst (λ n. KnowsInode u T n c.args.self.now) (sym c.number-key.ensures.value) known) in
    subst (λ n. StandsUser u after (edit T (Inodes (u, n) Gone))) c.number-key.ensures.value
    (gone_user u key T c.args.self.now after h small (c.take.ensures.stands (user_table T u) h.table path) c.remove.ensures.updates.0)

pub returns-clause-known : goal.returns-clause-known
returns-clause-known c u T h known =
    let key = c.number-key.result in
    let small = small_number key c.number-key.ensures.range.1 in
    let after : UserPart = record { table = c.take.new.self; inodes = c.remove.new.self; alloc = c.args.self.now.alloc } in
    let path = inode_known u key T c.args.self.now h (subst (λ n. KnowsInode u T n c.args.self.now) (sym c.number-key.ensures.value) known) in
    subst (λ n. StaysKnown u T (edit T (Inodes (u, n) Gone)) c.args.self.now after) c.number-key.ensures.value
    (known_gone u key T c.args.self.now after h small (c.take.ensures.stands (user_table T u) h.table path) (c.take.ensures.stays (user_table T u) h.table path) c.remove.ensures.updates.0)

pub returns-clause-others : goal.returns-clause-others
returns-clause-others c m e = c.remove.ensures.updates.2 m (subst (λ n. is_at (nat_cmp n) m ≡ false) (sym c.number-key.ensures.value) e)

pub returns-clause-paths : goal.returns-clause-paths
returns-clause-paths c u T h known m low other there reached =
    let key = c.number-key.result in
    let small = small_number key c.number-key.ensures.range.1 in
    let path = inode_known u key T c.args.self.now h (subst (λ n. KnowsInode u T n c.args.self.now) (sym c.number-key.ensures.value) known) in
    gone_path u key T c.args.self.now.table c.take.new.self h.table small (c.take.ensures.stands (user_table T u) h.table path) m (is_number m low)
    (subst (λ n. is_at (nat_cmp n) m ≡ false) (sym c.number-key.ensures.value) other) there (c.take.ensures.stays (user_table T u) h.table path m (inl reached))
