use Rattle.std.proofs.Common.{◌≡◌, ◌∙◌, sym, ap, subst, Some, None, refl}
use Rattle.std.specs.Option.{is_some}
use Rattle.std.specs.FinMap.{get}
use Rattle.su_node.specs.InodeChange.{InodeChange.Named}
use Rattle.su_table.specs.Edit.{Edit.Inodes, edit}
use Rattle.su_node.specs.Field.{Field.NameOf, Value.Nothing, field_value}
use Rattle.su_table.specs.Cell.{val}
use Rattle.su_part.specs.declared.users.UserPart.{UserPart}
use Rattle.su_part.specs.Known.{StaysKnown}
use Rattle.su_part.specs.Part.{HasAll, StandsAt, StandsUser, StaysLoaded, at_number, with_named}
use Rattle.su_part.proofs.ContentLemmas.{meant_named}
use Rattle.su_part.proofs.KnownLemmas.{known_edited, known_itself}
use Rattle.su_part.proofs.WriteLemmas.{on_err}
use Rattle.su_part.proofs.UserLemmas.{small_number, stays_edited, stays_itself, all_edited, all_itself, asked_there, edited_user, edit_nothing, not_loaded, ok_of}
use Rattle.su_part.proofs.users.UserPart.add_name.Goals.{in-Some+in_ok-name_set, in_default}
use Rattle.su_part.proofs.users.UserPart.add_name.Goals as goal

pub returns-clause-ok : goal.returns-clause-ok
returns-clause-ok c u T h there =
    let x = c.args.name in
    let f = c.args.file in
    let small = small_number c.number-key.result c.number-key.ensures.range.1 in
    elim c.match-get_mut.branch [
      | in-Some+in_ok-name_set w ↦
          let found = w.in-Some.ensures.value in
          let done = edited_user (Named x (Some f)) (with_named x (Some f)) (λ k. refl) refl (λ k m. meant_named x f k c.requires.meant m)
          u c.number-key.result T c.args.self.now (record { table = w.put-done.new.self; inodes = c.get_mut.follows.lender w.name_set.new.self; alloc = c.args.self.now.alloc })
          w.in-Some.inode.now w.digest-digest.result h small found w.name_set.new.self w.in_ok-name_set.ensures.ok w.digest-digest.ensures
          (λ m s none. ok_of w.put-done.result (w.put-done.ensures.ok m s) (w.put-done.ensures.absent m s) none)
          ((c.get_mut.follows.holds w.name_set.new.self).3 (ap is_some (sym found))).0 in
          subst (λ s. StandsUser u s (edit T (Inodes (u, c.args.number) (Named x (Some f))))) (sym w.self-is)
          (subst (λ n. StandsUser u (record { table = w.put-done.new.self; inodes = c.get_mut.follows.lender w.name_set.new.self; alloc = c.args.self.now.alloc }) (edit T (Inodes (u, n) (Named x (Some f))))) c.number-key.ensures.value done)
      | in_default w ↦
          let none : None ≡ at_number c.args.self.now.inodes.entries c.args.number = w.in_default.ensures.value ∙ ap (at_number c.args.self.now.inodes.entries) c.number-key.ensures.value in
          let same = edit_nothing (Named x (Some f)) (with_named x (Some f)) (λ k. refl) refl T u c.args.number (not_loaded (get T.inodes (u, c.args.number)) _ there none) in
          rw (w.self-is, c.get_mut.follows.holds-at-none) (subst (StandsUser u c.args.self.now) (sym same) h)
    ]

pub returns-clause-stays : goal.returns-clause-stays
returns-clause-stays c = elim c.match-get_mut.branch [
  | in-Some+in_ok-name_set w ↦
      subst (StaysLoaded c.args.number c.args.self.now) (sym w.self-is)
      (subst (λ n. StaysLoaded n c.args.self.now (record { table = w.put-done.new.self; inodes = c.get_mut.follows.lender w.name_set.new.self; alloc = c.args.self.now.alloc })) c.number-key.ensures.value
      (stays_edited c.number-key.result c.args.self.now (record { table = w.put-done.new.self; inodes = c.get_mut.follows.lender w.name_set.new.self; alloc = c.args.self.now.alloc }) w.name_set.new.self w.put-done.ensures.keeps
      ((c.get_mut.follows.holds w.name_set.new.self).3 (ap is_some (sym w.in-Some.ensures.value))).0))
  | in_default w ↦ rw (w.self-is, c.get_mut.follows.holds-at-none) (stays_itself c.args.number c.args.self.now)
]

pub returns-clause-known : goal.returns-clause-known
returns-clause-known c u T h there =
    let x = c.args.name in
    let f = c.args.file in
    elim c.match-get_mut.branch [
      | in-Some+in_ok-name_set w ↦
          let found = w.in-Some.ensures.value in
          let after : UserPart = record { table = w.put-done.new.self; inodes = c.get_mut.follows.lender w.name_set.new.self; alloc = c.args.self.now.alloc } in
          let done = known_edited (Named x (Some f)) (with_named x (Some f)) (λ k. refl) u c.number-key.result T c.args.self.now after w.in-Some.inode.now w.name_set.new.self h found w.put-done.ensures.keeps
          ((c.get_mut.follows.holds w.name_set.new.self).3 (ap is_some (sym found))).0 (λ k at s. w.in_ok-name_set.ensures.known k s) in
          subst (λ s. StaysKnown u T (edit T (Inodes (u, c.args.number) (Named x (Some f)))) c.args.self.now s) (sym w.self-is)
          (subst (λ n. StaysKnown u T (edit T (Inodes (u, n) (Named x (Some f)))) c.args.self.now after) c.number-key.ensures.value done)
      | in_default w ↦
          let none : None ≡ at_number c.args.self.now.inodes.entries c.args.number = w.in_default.ensures.value ∙ ap (at_number c.args.self.now.inodes.entries) c.number-key.ensures.value in
          let same = edit_nothing (Named x (Some f)) (with_named x (Some f)) (λ k. refl) refl T u c.args.number (not_loaded (get T.inodes (u, c.args.number)) _ there none) in
          rw (w.self-is, c.get_mut.follows.holds-at-none) (subst (λ V. StaysKnown u T V c.args.self.now c.args.self.now) (sym same) (known_itself u T c.args.self.now))
    ]

pub returns-clause-keeps : goal.returns-clause-keeps
returns-clause-keeps c = elim c.match-get_mut.branch [
  | in-Some+in_ok-name_set w ↦
      let found = w.in-Some.ensures.value in
      let after : UserPart = record { table = w.put-done.new.self; inodes = c.get_mut.follows.lender w.name_set.new.self; alloc = c.args.self.now.alloc } in
      subst (HasAll c.args.self.now) (sym w.self-is)
      (all_edited c.args.self.now after c.number-key.result w.in-Some.inode.now w.name_set.new.self w.put-done.ensures.keeps found w.name_set.ensures.keeps ((c.get_mut.follows.holds w.name_set.new.self).3 (ap is_some (sym found))).0)
  | in_default w ↦ rw (w.self-is, c.get_mut.follows.holds-at-none) (all_itself c.args.self.now)
]

pub returns-in_err-name_set-clause-absent : goal.returns-in_err-name_set-clause-absent
unfolding val
returns-in_err-name_set-clause-absent c u T h =
    let key = c.number-key.result in
    let x = c.args.name in
    let here = subst (λ y. StandsAt y (get T.inodes (u, key))) (sym c.in-Some.ensures.value) (h.inodes key) in
    on_err c.from_residual.result
    (subst (λ n. field_value (get T.inodes (u, n)) (NameOf x) ≡ Nothing) c.number-key.ensures.value
    (asked_there (get T.inodes (u, key)) c.in-Some.inode.now (λ o. field_value o (NameOf x) ≡ Nothing) here c.in_err-name_set.ensures.absent))
