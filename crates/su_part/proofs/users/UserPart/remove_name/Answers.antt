use Rattle.std.proofs.Common.{◌≡◌, ◌∙◌, refl, sym, ap, subst, None}
use Rattle.std.specs.Option.{is_some}
use Rattle.std.specs.FinMap.{get}
use Rattle.su_node.specs.InodeChange.{InodeChange.Named}
use Rattle.su_table.specs.Edit.{Edit.Inodes, edit}
use Rattle.su_table.specs.Handle.{user_table}
use Rattle.su_part.specs.declared.users.UserPart.{UserPart}
use Rattle.su_part.specs.Known.{KnowsName, KnowsNameIn, StaysKnown}
use Rattle.su_part.specs.Part.{StandsUser, StaysLoaded, at_number, with_named}
use Rattle.su_part.proofs.ContentLemmas.{meant_unnamed}
use Rattle.su_part.proofs.KnownLemmas.{inode_known, known_edited, known_itself, loaded_part}
use Rattle.su_part.proofs.UserLemmas.{small_number, stays_edited, stays_itself, edited_at, edit_nothing, not_loaded}
use Rattle.su_part.proofs.users.UserPart.remove_name.Goals as goal

pub returns-in-Some-clause-stands : goal.returns-in-Some-clause-stands
returns-in-Some-clause-stands c u T h known =
    let key = c.number-key.result in
    let x = c.args.name.now in
    let small = small_number key c.number-key.ensures.range.1 in
    let found = c.in-Some.ensures.value in
    let after : UserPart = record { table = c.set.new.self; inodes = c.get_mut.follows.lender c.name_remove.new.self; alloc = c.args.self.now.alloc } in
    let w = subst (λ n. KnowsName u T n x c.args.self.now) (sym c.number-key.ensures.value) known in
    let done = edited_at (Named x None) (with_named x None) (λ k. refl) refl (λ k m. meant_unnamed x k m) u key T c.args.self.now after
    c.in-Some.inode.now c.digest-digest.result h small found c.name_remove.new.self
    (λ k at s. c.name_remove.ensures.stands k s (loaded_part (KnowsNameIn x) (at_number c.args.self.now.inodes.entries key) (get T.inodes (u, key)) c.in-Some.inode.now k found at w.part)) c.digest-digest.ensures
    (c.set.ensures.stands (user_table T u) h.table (inode_known u key T c.args.self.now h w.inode))
    ((c.get_mut.follows.holds c.name_remove.new.self).3 (ap is_some (sym found))).0 in
    subst (λ n. StandsUser u after (edit T (Inodes (u, n) (Named x None)))) c.number-key.ensures.value done

pub returns-in-Some-clause-known : goal.returns-in-Some-clause-known
returns-in-Some-clause-known c u T h known =
    let key = c.number-key.result in
    let x = c.args.name.now in
    let found = c.in-Some.ensures.value in
    let after : UserPart = record { table = c.set.new.self; inodes = c.get_mut.follows.lender c.name_remove.new.self; alloc = c.args.self.now.alloc } in
    let w = subst (λ n. KnowsName u T n x c.args.self.now) (sym c.number-key.ensures.value) known in
    let done = known_edited (Named x None) (with_named x None) (λ k. refl) u key T c.args.self.now after c.in-Some.inode.now c.name_remove.new.self h found c.set.ensures.keeps
    ((c.get_mut.follows.holds c.name_remove.new.self).3 (ap is_some (sym found))).0
    (λ k at s. c.name_remove.ensures.known k s (loaded_part (KnowsNameIn x) (at_number c.args.self.now.inodes.entries key) (get T.inodes (u, key)) c.in-Some.inode.now k found at w.part)) in
    subst (λ n. StaysKnown u T (edit T (Inodes (u, n) (Named x None))) c.args.self.now after) c.number-key.ensures.value done

pub returns-in_default-clause-stands : goal.returns-in_default-clause-stands
returns-in_default-clause-stands c u T h known =
    let none : None ≡ at_number c.args.self.now.inodes.entries c.args.number = c.in_default.ensures.value ∙ ap (at_number c.args.self.now.inodes.entries) c.number-key.ensures.value in
    let same = edit_nothing (Named c.args.name.now None) (with_named c.args.name.now None) (λ k. refl) refl T u c.args.number (not_loaded (get T.inodes (u, c.args.number)) _ known.inode.there none) in
    rw c.get_mut.follows.holds-at-none (subst (StandsUser u c.args.self.now) (sym same) h)

pub returns-in_default-clause-known : goal.returns-in_default-clause-known
returns-in_default-clause-known c u T h known =
    let none : None ≡ at_number c.args.self.now.inodes.entries c.args.number = c.in_default.ensures.value ∙ ap (at_number c.args.self.now.inodes.entries) c.number-key.ensures.value in
    let same = edit_nothing (Named c.args.name.now None) (with_named c.args.name.now None) (λ k. refl) refl T u c.args.number (not_loaded (get T.inodes (u, c.args.number)) _ known.inode.there none) in
    rw c.get_mut.follows.holds-at-none (subst (λ V. StaysKnown u T V c.args.self.now c.args.self.now) (sym same) (known_itself u T c.args.self.now))

pub returns-in-Some-clause-stays : goal.returns-in-Some-clause-stays
returns-in-Some-clause-stays c =
    subst (λ n. StaysLoaded n c.args.self.now (record { table = c.set.new.self; inodes = c.get_mut.follows.lender c.name_remove.new.self; alloc = c.args.self.now.alloc })) c.number-key.ensures.value
    (stays_edited c.number-key.result c.args.self.now (record { table = c.set.new.self; inodes = c.get_mut.follows.lender c.name_remove.new.self; alloc = c.args.self.now.alloc }) c.name_remove.new.self c.set.ensures.keeps
    ((c.get_mut.follows.holds c.name_remove.new.self).3 (ap is_some (sym c.in-Some.ensures.value))).0)

pub returns-in_default-clause-stays : goal.returns-in_default-clause-stays
returns-in_default-clause-stays c = rw c.get_mut.follows.holds-at-none (stays_itself c.args.number c.args.self.now)
