use Rattle.std.proofs.Common.{◌≡◌, ◌∙◌, refl, sym, ap, subst, None, arith}
use Rattle.std.specs.Option.{is_some}
use Rattle.std.specs.FinMap.{get}
use Rattle.su_node.specs.InodeChange.{InodeChange.Linked}
use Rattle.su_table.specs.Edit.{Edit.Inodes, edit}
use Rattle.su_table.specs.Handle.{user_table}
use Rattle.su_part.specs.declared.users.UserPart.{UserPart}
use Rattle.su_part.specs.Known.{KnowsInode, StaysKnown, StaysKnownIn}
use Rattle.su_part.specs.Part.{HasAllIn, StandsUser, StaysLoaded, at_number, with_links}
use Rattle.su_part.proofs.ContentLemmas.{all_in_itself, meant_linked}
use Rattle.su_part.proofs.KnownLemmas.{inode_known, known_edited, known_itself, known_same}
use Rattle.su_part.proofs.UserLemmas.{small_number, stays_edited, stays_itself, all_edited, all_itself, edited_at, edit_nothing, not_loaded}
use Rattle.su_part.proofs.users.UserPart.set_links.Goals as goal

pub returns-in-Some-clause-stands : goal.returns-in-Some-clause-stands
returns-in-Some-clause-stands c u T h known =
    let small = small_number c.number-key.result c.number-key.ensures.range.1 in
    let found = c.in-Some.ensures.value in
    let done = edited_at (Linked c.args.links) (with_links c.args.links) (λ k. refl) refl (λ k m. meant_linked c.args.links k (omega arith) m) u c.number-key.result T c.args.self.now
    (record { table = c.set.new.self; inodes = c.get_mut.follows.lender c.set_links.new.self; alloc = c.args.self.now.alloc })
    c.in-Some.inode.now c.digest-digest.result h small found c.set_links.new.self (λ k at s. c.set_links.ensures.stands k s) c.digest-digest.ensures
    (c.set.ensures.stands (user_table T u) h.table (inode_known u c.number-key.result T c.args.self.now h (subst (λ n. KnowsInode u T n c.args.self.now) (sym c.number-key.ensures.value) known)))
    ((c.get_mut.follows.holds c.set_links.new.self).3 (ap is_some (sym found))).0 in
    subst (λ n. StandsUser u (record { table = c.set.new.self; inodes = c.get_mut.follows.lender c.set_links.new.self; alloc = c.args.self.now.alloc }) (edit T (Inodes (u, n) (Linked c.args.links)))) c.number-key.ensures.value done

pub returns-in_default-clause-stands : goal.returns-in_default-clause-stands
returns-in_default-clause-stands c u T h known =
    let none : None ≡ at_number c.args.self.now.inodes.entries c.args.number = c.in_default.ensures.value ∙ ap (at_number c.args.self.now.inodes.entries) c.number-key.ensures.value in
    let same = edit_nothing (Linked c.args.links) (with_links c.args.links) (λ k. refl) refl T u c.args.number (not_loaded (get T.inodes (u, c.args.number)) _ known.there none) in
    rw c.get_mut.follows.holds-at-none (subst (StandsUser u c.args.self.now) (sym same) h)

pub returns-in-Some-clause-stays : goal.returns-in-Some-clause-stays
returns-in-Some-clause-stays c =
    subst (λ n. StaysLoaded n c.args.self.now (record { table = c.set.new.self; inodes = c.get_mut.follows.lender c.set_links.new.self; alloc = c.args.self.now.alloc })) c.number-key.ensures.value
    (stays_edited c.number-key.result c.args.self.now (record { table = c.set.new.self; inodes = c.get_mut.follows.lender c.set_links.new.self; alloc = c.args.self.now.alloc }) c.set_links.new.self c.set.ensures.keeps
    ((c.get_mut.follows.holds c.set_links.new.self).3 (ap is_some (sym c.in-Some.ensures.value))).0)

pub returns-in_default-clause-stays : goal.returns-in_default-clause-stays
returns-in_default-clause-stays c = rw c.get_mut.follows.holds-at-none (stays_itself c.args.number c.args.self.now)

pub returns-in-Some-clause-known : goal.returns-in-Some-clause-known
returns-in-Some-clause-known c u T h known =
    let found = c.in-Some.ensures.value in
    let after : UserPart = record { table = c.set.new.self; inodes = c.get_mut.follows.lender c.set_links.new.self; alloc = c.args.self.now.alloc } in
    let done = known_edited (Linked c.args.links) (with_links c.args.links) (λ k. refl) u c.number-key.result T c.args.self.now after c.in-Some.inode.now c.set_links.new.self h found c.set.ensures.keeps
    ((c.get_mut.follows.holds c.set_links.new.self).3 (ap is_some (sym found))).0
    (λ k at s. subst (λ x. StaysKnownIn c.in-Some.inode.now.content k.content x k.content) (sym c.set_links.ensures.same) (known_same c.in-Some.inode.now.content k.content)) in
    subst (λ n. StaysKnown u T (edit T (Inodes (u, n) (Linked c.args.links))) c.args.self.now after) c.number-key.ensures.value done

pub returns-in_default-clause-known : goal.returns-in_default-clause-known
returns-in_default-clause-known c u T h known =
    let none : None ≡ at_number c.args.self.now.inodes.entries c.args.number = c.in_default.ensures.value ∙ ap (at_number c.args.self.now.inodes.entries) c.number-key.ensures.value in
    let same = edit_nothing (Linked c.args.links) (with_links c.args.links) (λ k. refl) refl T u c.args.number (not_loaded (get T.inodes (u, c.args.number)) _ known.there none) in
    rw c.get_mut.follows.holds-at-none (subst (λ V. StaysKnown u T V c.args.self.now c.args.self.now) (sym same) (known_itself u T c.args.self.now))

pub returns-in-Some-clause-keeps : goal.returns-in-Some-clause-keeps
returns-in-Some-clause-keeps c =
    let found = c.in-Some.ensures.value in
    let after : UserPart = record { table = c.set.new.self; inodes = c.get_mut.follows.lender c.set_links.new.self; alloc = c.args.self.now.alloc } in
    all_edited c.args.self.now after c.number-key.result c.in-Some.inode.now c.set_links.new.self c.set.ensures.keeps found
    (subst (HasAllIn c.in-Some.inode.now.content) (sym c.set_links.ensures.same) (all_in_itself c.in-Some.inode.now.content))
    ((c.get_mut.follows.holds c.set_links.new.self).3 (ap is_some (sym found))).0

pub returns-in_default-clause-keeps : goal.returns-in_default-clause-keeps
returns-in_default-clause-keeps c = rw c.get_mut.follows.holds-at-none (all_itself c.args.self.now)
