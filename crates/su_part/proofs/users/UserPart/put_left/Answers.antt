use Rattle.std.proofs.Common.{◌≡◌, ◌∙◌, ◌+◌, ◌*◌, ◌≤◌, ◌<◌, ◌^◌, length, refl, sym, ap, subst, None, arith}
use Rattle.std.specs.Option.{is_some}
use Rattle.std.specs.FinMap.{get}
use Rattle.su_node.specs.InodeChange.{InodeChange.Written}
use Rattle.su_table.specs.Edit.{Edit.Inodes, edit}
use Rattle.su_table.specs.Handle.{user_table}
use Rattle.su_table.specs.Query.{size_at}
use Rattle.su_part.specs.Known.{KnowsInode}
use Rattle.su_part.specs.Left.{AreDigestsOf, StaysKnownBut}
use Rattle.su_part.specs.declared.users.UserPart.{UserPart}
use Rattle.su_part.specs.Part.{StandsUser, StaysLoaded, at_number, with_written}
use Rattle.su_part.proofs.ContentLemmas.{meant_written}
use Rattle.su_part.proofs.KnownLemmas.{inode_known, size_there}
use Rattle.su_part.proofs.LeftLemmas.{but_itself, digests_there, known_but, size_small}
use Rattle.su_part.proofs.UserLemmas.{small_number, stays_edited, stays_itself, edited_at, edit_nothing, not_loaded}
use Rattle.su_part.proofs.users.UserPart.put_left.Goals as goal

pub returns-in-Some-clause-stands : goal.returns-in-Some-clause-stands
returns-in-Some-clause-stands c u T xs h known le is =
    let key = c.number-key.result in
    let off = 4096 * c.args.first in
    let was = size_at T (u, c.args.number) in
    let small = small_number key c.number-key.ensures.range.1 in
    let found = c.in-Some.ensures.value in
    let after : UserPart = record { table = c.set.new.self; inodes = c.get_mut.follows.lender c.put_left.new.self; alloc = c.args.self.now.alloc } in
    let within = subst (λ n. off + length xs ≤ size_at T (u, n)) (sym c.number-key.ensures.value) le in
    let these = subst (λ n. AreDigestsOf c.args.first xs (get T.inodes (u, n)) c.args.digests.now) (sym c.number-key.ensures.value) is in
    let most = size_small T u key (h.meant key) in
    let few : off + length xs < 2 ^ 32 = omega (arith, within, most) in
    let done = edited_at (Written was off xs) (with_written off xs) (λ k. refl) refl (λ k m. meant_written off xs k few m) u key T c.args.self.now after
    c.in-Some.inode.now c.digest-digest.result h small found c.put_left.new.self
    (λ k at s. c.put_left.ensures.stands k xs s (subst (λ n. off + length xs ≤ n) (size_there T u key k at) within) (digests_there c.args.first xs c.args.digests.now (get T.inodes (u, key)) k at these)) c.digest-digest.ensures
    (c.set.ensures.stands (user_table T u) h.table (inode_known u key T c.args.self.now h (subst (λ n. KnowsInode u T n c.args.self.now) (sym c.number-key.ensures.value) known)))
    ((c.get_mut.follows.holds c.put_left.new.self).3 (ap is_some (sym found))).0 in
    subst (λ n. StandsUser u after (edit T (Inodes (u, n) (Written was off xs)))) c.number-key.ensures.value done

pub returns-in-Some-clause-known : goal.returns-in-Some-clause-known
returns-in-Some-clause-known c u T xs h known le =
    let key = c.number-key.result in
    let first = c.args.first in
    let off = 4096 * c.args.first in
    let end_ = c.args.first + length c.args.digests.now in
    let was = size_at T (u, c.args.number) in
    let found = c.in-Some.ensures.value in
    let after : UserPart = record { table = c.set.new.self; inodes = c.get_mut.follows.lender c.put_left.new.self; alloc = c.args.self.now.alloc } in
    let within = subst (λ n. off + length xs ≤ size_at T (u, n)) (sym c.number-key.ensures.value) le in
    let done = known_but (Written was off xs) (with_written off xs) (λ k. refl) u key first end_ T c.args.self.now after c.in-Some.inode.now c.put_left.new.self h found c.set.ensures.keeps
    ((c.get_mut.follows.holds c.put_left.new.self).3 (ap is_some (sym found))).0
    (λ k at s. c.put_left.ensures.known k xs s (subst (λ n. off + length xs ≤ n) (size_there T u key k at) within)) in
    subst (λ n. StaysKnownBut u n first end_ T (edit T (Inodes (u, n) (Written was off xs))) c.args.self.now after) c.number-key.ensures.value done

pub returns-in_default-clause-stands : goal.returns-in_default-clause-stands
returns-in_default-clause-stands c u T xs h known le is =
    let off = 4096 * c.args.first in
    let none : None ≡ at_number c.args.self.now.inodes.entries c.args.number = c.in_default.ensures.value ∙ ap (at_number c.args.self.now.inodes.entries) c.number-key.ensures.value in
    let same = edit_nothing (Written (size_at T (u, c.args.number)) off xs) (with_written off xs) (λ k. refl) refl T u c.args.number (not_loaded (get T.inodes (u, c.args.number)) _ known.there none) in
    rw c.get_mut.follows.holds-at-none (subst (StandsUser u c.args.self.now) (sym same) h)

pub returns-in_default-clause-known : goal.returns-in_default-clause-known
returns-in_default-clause-known c u T xs h known le =
    let off = 4096 * c.args.first in
    let first = c.args.first in
    let end_ = c.args.first + length c.args.digests.now in
    let none : None ≡ at_number c.args.self.now.inodes.entries c.args.number = c.in_default.ensures.value ∙ ap (at_number c.args.self.now.inodes.entries) c.number-key.ensures.value in
    let same = edit_nothing (Written (size_at T (u, c.args.number)) off xs) (with_written off xs) (λ k. refl) refl T u c.args.number (not_loaded (get T.inodes (u, c.args.number)) _ known.there none) in
    rw c.get_mut.follows.holds-at-none (subst (λ V. StaysKnownBut u c.args.number first end_ T V c.args.self.now c.args.self.now) (sym same) (but_itself u c.args.number first end_ T c.args.self.now))

pub returns-in-Some-clause-stays : goal.returns-in-Some-clause-stays
returns-in-Some-clause-stays c =
    let after : UserPart = record { table = c.set.new.self; inodes = c.get_mut.follows.lender c.put_left.new.self; alloc = c.args.self.now.alloc } in
    subst (λ n. StaysLoaded n c.args.self.now after) c.number-key.ensures.value
    (stays_edited c.number-key.result c.args.self.now after c.put_left.new.self c.set.ensures.keeps ((c.get_mut.follows.holds c.put_left.new.self).3 (ap is_some (sym c.in-Some.ensures.value))).0)

pub returns-in_default-clause-stays : goal.returns-in_default-clause-stays
returns-in_default-clause-stays c = rw c.get_mut.follows.holds-at-none (stays_itself c.args.number c.args.self.now)
