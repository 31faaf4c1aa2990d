use Rattle.std.proofs.Common.{◌≡◌, ◌∙◌, refl, sym, ap, subst, None}
use Rattle.std.specs.Option.{is_some}
use Rattle.std.specs.FinMap.{get}
use Rattle.su_node.specs.InodeChange.{InodeChange.Written}
use Rattle.su_table.specs.Edit.{Edit.Inodes, edit}
use Rattle.su_table.specs.Handle.{user_table}
use Rattle.su_table.specs.Query.{size_at}
use Rattle.std.proofs.Common.{◌+◌, ◌≤◌, false, true, length}
use Rattle.su_part.specs.declared.users.UserPart.{UserPart}
use Rattle.su_part.specs.Known.{KnowsInode, StaysKnown}
use Rattle.su_part.specs.Part.{HasAll, HasAllIn, StandsAt, StandsUser, at_number, with_written}
use Rattle.su_part.proofs.ContentLemmas.{meant_written}
use Rattle.su_part.proofs.KnownLemmas.{inode_known, known_edited, known_itself, size_there}
use Rattle.su_part.proofs.UserLemmas.{small_number, all_edited, all_itself, asked_there, edited_at, edit_nothing, not_loaded}
use Rattle.su_part.proofs.users.UserPart.write_at.Goals.{in-Some+in_ok-write_at, in_default}
use Rattle.su_part.proofs.users.UserPart.write_at.Goals as goal

pub returns-clause-ok : goal.returns-clause-ok
returns-clause-ok c u T h known =
    let off = c.args.off in
    let xs = c.args.bytes.now in
    let size = size_at T (u, c.args.number) in
    let small = small_number c.number-key.result c.number-key.ensures.range.1 in
    elim c.match-get_mut.branch [
      | in-Some+in_ok-write_at w ↦
          let found = w.in-Some.ensures.value in
          let done = edited_at (Written size off xs) (with_written off xs) (λ k. refl) refl (λ k m. meant_written off xs k c.requires.small m)
          u c.number-key.result T c.args.self.now (record { table = w.set.new.self; inodes = c.get_mut.follows.lender w.write_at.new.self; alloc = c.args.self.now.alloc })
          w.in-Some.inode.now w.digest-digest.result h small found w.write_at.new.self (λ k at s. w.in_ok-write_at.ensures.ok k s) w.digest-digest.ensures
          (w.set.ensures.stands (user_table T u) h.table (inode_known u c.number-key.result T c.args.self.now h (subst (λ n. KnowsInode u T n c.args.self.now) (sym c.number-key.ensures.value) known)))
          ((c.get_mut.follows.holds w.write_at.new.self).3 (ap is_some (sym found))).0 in
          subst (λ s. StandsUser u s (edit T (Inodes (u, c.args.number) (Written size off xs)))) (sym w.self-is)
          (subst (λ n. StandsUser u (record { table = w.set.new.self; inodes = c.get_mut.follows.lender w.write_at.new.self; alloc = c.args.self.now.alloc }) (edit T (Inodes (u, n) (Written size off xs)))) c.number-key.ensures.value done)
      | in_default w ↦
          let none : None ≡ at_number c.args.self.now.inodes.entries c.args.number = w.in_default.ensures.value ∙ ap (at_number c.args.self.now.inodes.entries) c.number-key.ensures.value in
          let same = edit_nothing (Written size off xs) (with_written off xs) (λ k. refl) refl T u c.args.number (not_loaded (get T.inodes (u, c.args.number)) _ known.there none) in
          rw (w.self-is, c.get_mut.follows.holds-at-none) (subst (StandsUser u c.args.self.now) (sym same) h)
    ]

pub returns-clause-known : goal.returns-clause-known
returns-clause-known c u T h known =
    let off = c.args.off in
    let xs = c.args.bytes.now in
    let size = size_at T (u, c.args.number) in
    elim c.match-get_mut.branch [
      | in-Some+in_ok-write_at w ↦
          let found = w.in-Some.ensures.value in
          let after : UserPart = record { table = w.set.new.self; inodes = c.get_mut.follows.lender w.write_at.new.self; alloc = c.args.self.now.alloc } in
          let done = known_edited (Written size off xs) (with_written off xs) (λ k. refl) u c.number-key.result T c.args.self.now after w.in-Some.inode.now w.write_at.new.self h found w.set.ensures.keeps
          ((c.get_mut.follows.holds w.write_at.new.self).3 (ap is_some (sym found))).0 (λ k at s. w.in_ok-write_at.ensures.known k s) in
          subst (λ s. StaysKnown u T (edit T (Inodes (u, c.args.number) (Written size off xs))) c.args.self.now s) (sym w.self-is)
          (subst (λ n. StaysKnown u T (edit T (Inodes (u, n) (Written size off xs))) c.args.self.now after) c.number-key.ensures.value done)
      | in_default w ↦
          let none : None ≡ at_number c.args.self.now.inodes.entries c.args.number = w.in_default.ensures.value ∙ ap (at_number c.args.self.now.inodes.entries) c.number-key.ensures.value in
          let same = edit_nothing (Written size off xs) (with_written off xs) (λ k. refl) refl T u c.args.number (not_loaded (get T.inodes (u, c.args.number)) _ known.there none) in
          rw (w.self-is, c.get_mut.follows.holds-at-none) (subst (λ V. StaysKnown u T V c.args.self.now c.args.self.now) (sym same) (known_itself u T c.args.self.now))
    ]

pub returns-in_err-write_at-clause-succeeds : goal.returns-in_err-write_at-clause-succeeds
returns-in_err-write_at-clause-succeeds c u T h le =
    let key = c.number-key.result in
    let within = subst (λ n. c.args.off + length c.args.bytes.now ≤ size_at T (u, n)) (sym c.number-key.ensures.value) le in
    let here = subst (λ y. StandsAt y (get T.inodes (u, key))) (sym c.in-Some.ensures.value) (h.inodes key) in
    absurd (asked_there (get T.inodes (u, key)) c.in-Some.inode.now (λ o. get T.inodes (u, key) ≡ o → ⊥) here
    (λ k s at. let z : false ≡ true = c.in_err-write_at.ensures.succeeds k s (subst (λ n. c.args.off + length c.args.bytes.now ≤ n) (size_there T u key k at) within) in absurd cc) refl)

pub returns-clause-all : goal.returns-clause-all
returns-clause-all c u T h le =
    let key = c.number-key.result in
    let within = subst (λ n. c.args.off + length c.args.bytes.now ≤ size_at T (u, n)) (sym c.number-key.ensures.value) le in
    elim c.match-get_mut.branch [
      | in-Some+in_ok-write_at w ↦
          let found = w.in-Some.ensures.value in
          let after : UserPart = record { table = w.set.new.self; inodes = c.get_mut.follows.lender w.write_at.new.self; alloc = c.args.self.now.alloc } in
          let here = subst (λ y. StandsAt y (get T.inodes (u, key))) (sym found) (h.inodes key) in
          let more = asked_there (get T.inodes (u, key)) w.in-Some.inode.now (λ o. get T.inodes (u, key) ≡ o → HasAllIn w.in-Some.inode.now.content w.write_at.new.self.content) here
          (λ k s at. w.write_at.ensures.all k s (subst (λ n. c.args.off + length c.args.bytes.now ≤ n) (size_there T u key k at) within)) refl in
          subst (HasAll c.args.self.now) (sym w.self-is)
          (all_edited c.args.self.now after key w.in-Some.inode.now w.write_at.new.self w.set.ensures.keeps found more ((c.get_mut.follows.holds w.write_at.new.self).3 (ap is_some (sym found))).0)
      | in_default w ↦ rw (w.self-is, c.get_mut.follows.holds-at-none) (all_itself c.args.self.now)
    ]

pub returns-in_err-write_at-clause-all : goal.returns-in_err-write_at-clause-all
returns-in_err-write_at-clause-all c u T h le =
    let key = c.number-key.result in
    let found = c.in-Some.ensures.value in
    let within = subst (λ n. c.args.off + length c.args.bytes.now ≤ size_at T (u, n)) (sym c.number-key.ensures.value) le in
    let here = subst (λ y. StandsAt y (get T.inodes (u, key))) (sym found) (h.inodes key) in
    let more = asked_there (get T.inodes (u, key)) c.in-Some.inode.now (λ o. get T.inodes (u, key) ≡ o → HasAllIn c.in-Some.inode.now.content c.write_at.new.self.content) here
    (λ k s at. c.write_at.ensures.all k s (subst (λ n. c.args.off + length c.args.bytes.now ≤ n) (size_there T u key k at) within)) refl in
    all_edited c.args.self.now (record { table = c.args.self.now.table; inodes = c.get_mut.follows.lender c.write_at.new.self; alloc = c.args.self.now.alloc }) key c.in-Some.inode.now c.write_at.new.self (λ n r. r) found more
    ((c.get_mut.follows.holds c.write_at.new.self).3 (ap is_some (sym found))).0
