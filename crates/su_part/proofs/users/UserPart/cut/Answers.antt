use Rattle.std.proofs.Common.{◌≡◌, ◌∙◌, ◌≤◌, ◌<◌, ◌^◌, refl, sym, ap, subst, None, arith}
use Rattle.std.specs.Option.{is_some}
use Rattle.std.specs.FinMap.{get}
use Rattle.su_node.specs.InodeChange.{InodeChange.Resized}
use Rattle.su_table.specs.Edit.{Edit.Inodes, edit}
use Rattle.su_table.specs.Handle.{user_table}
use Rattle.su_table.specs.Query.{size_at}
use Rattle.su_part.specs.Cut.{with_resized}
use Rattle.su_part.specs.Known.{KnowsInode, StaysKnown}
use Rattle.su_part.specs.declared.users.UserPart.{UserPart}
use Rattle.su_part.specs.Part.{StandsUser, StaysLoaded, at_number}
use Rattle.su_part.proofs.ContentLemmas.{meant_resized}
use Rattle.su_part.proofs.KnownLemmas.{inode_known, known_edited, known_itself, size_there}
use Rattle.su_part.proofs.UserLemmas.{small_number, stays_edited, stays_itself, edited_at, edit_nothing, not_loaded}
use Rattle.su_part.proofs.users.UserPart.cut.Goals as goal

pub returns-in-Some-clause-stands : goal.returns-in-Some-clause-stands
returns-in-Some-clause-stands c u T h known le =
    let key = c.number-key.result in
    let size = c.args.size in
    let was = size_at T (u, c.args.number) in
    let small = small_number key c.number-key.ensures.range.1 in
    let few : size < 2 ^ 32 = omega arith in
    let found = c.in-Some.ensures.value in
    let after : UserPart = record { table = c.set.new.self; inodes = c.get_mut.follows.lender c.cut.new.self; alloc = c.args.self.now.alloc } in
    let within = subst (λ n. size ≤ size_at T (u, n)) (sym c.number-key.ensures.value) le in
    let done = edited_at (Resized was size) (with_resized size) (λ k. refl) refl (λ k m. meant_resized size k few m) u key T c.args.self.now after
    c.in-Some.inode.now c.digest-digest.result h small found c.cut.new.self (λ k at s. c.cut.ensures.stands k s (subst (λ n. size ≤ n) (size_there T u key k at) within)) c.digest-digest.ensures
    (c.set.ensures.stands (user_table T u) h.table (inode_known u key T c.args.self.now h (subst (λ n. KnowsInode u T n c.args.self.now) (sym c.number-key.ensures.value) known)))
    ((c.get_mut.follows.holds c.cut.new.self).3 (ap is_some (sym found))).0 in
    subst (λ n. StandsUser u after (edit T (Inodes (u, n) (Resized was size)))) c.number-key.ensures.value done

pub returns-in-Some-clause-known : goal.returns-in-Some-clause-known
returns-in-Some-clause-known c u T h known le =
    let key = c.number-key.result in
    let size = c.args.size in
    let was = size_at T (u, c.args.number) in
    let found = c.in-Some.ensures.value in
    let after : UserPart = record { table = c.set.new.self; inodes = c.get_mut.follows.lender c.cut.new.self; alloc = c.args.self.now.alloc } in
    let within = subst (λ n. size ≤ size_at T (u, n)) (sym c.number-key.ensures.value) le in
    let done = known_edited (Resized was size) (with_resized size) (λ k. refl) u key T c.args.self.now after c.in-Some.inode.now c.cut.new.self h found c.set.ensures.keeps
    ((c.get_mut.follows.holds c.cut.new.self).3 (ap is_some (sym found))).0
    (λ k at s. c.cut.ensures.known k s (subst (λ n. size ≤ n) (size_there T u key k at) within)) in
    subst (λ n. StaysKnown u T (edit T (Inodes (u, n) (Resized was size))) c.args.self.now after) c.number-key.ensures.value done

pub returns-in_default-clause-stands : goal.returns-in_default-clause-stands
returns-in_default-clause-stands c u T h known le =
    let none : None ≡ at_number c.args.self.now.inodes.entries c.args.number = c.in_default.ensures.value ∙ ap (at_number c.args.self.now.inodes.entries) c.number-key.ensures.value in
    let same = edit_nothing (Resized (size_at T (u, c.args.number)) c.args.size) (with_resized c.args.size) (λ k. refl) refl T u c.args.number (not_loaded (get T.inodes (u, c.args.number)) _ known.there none) in
    rw c.get_mut.follows.holds-at-none (subst (StandsUser u c.args.self.now) (sym same) h)

pub returns-in_default-clause-known : goal.returns-in_default-clause-known
returns-in_default-clause-known c u T h known le =
    let none : None ≡ at_number c.args.self.now.inodes.entries c.args.number = c.in_default.ensures.value ∙ ap (at_number c.args.self.now.inodes.entries) c.number-key.ensures.value in
    let same = edit_nothing (Resized (size_at T (u, c.args.number)) c.args.size) (with_resized c.args.size) (λ k. refl) refl T u c.args.number (not_loaded (get T.inodes (u, c.args.number)) _ known.there none) in
    rw c.get_mut.follows.holds-at-none (subst (λ V. StaysKnown u T V c.args.self.now c.args.self.now) (sym same) (known_itself u T c.args.self.now))

pub returns-in-Some-clause-stays : goal.returns-in-Some-clause-stays
returns-in-Some-clause-stays c =
    let after : UserPart = record { table = c.set.new.self; inodes = c.get_mut.follows.lender c.cut.new.self; alloc = c.args.self.now.alloc } in
    subst (λ n. StaysLoaded n c.args.self.now after) c.number-key.ensures.value
    (stays_edited c.number-key.result c.args.self.now after c.cut.new.self c.set.ensures.keeps ((c.get_mut.follows.holds c.cut.new.self).3 (ap is_some (sym c.in-Some.ensures.value))).0)

pub returns-in_default-clause-stays : goal.returns-in_default-clause-stays
returns-in_default-clause-stays c = rw c.get_mut.follows.holds-at-none (stays_itself c.args.number c.args.self.now)
