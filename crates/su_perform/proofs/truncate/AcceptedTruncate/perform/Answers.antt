use Rattle.std.proofs.Common.{◌≡◌, ◌<◌, ◌≤◌, ◌^◌, arith, rules, sym, subst}
use Rattle.su_node.specs.InodeChange.InodeChange.{Resized}
use Rattle.su_part_forest.specs.Forest.{Stands}
use Rattle.su_table.specs.Edit.{Edit.Inodes, edit}
use Rattle.su_table.specs.Query.{size_at}
use Rattle.su_perform.proofs.PerformLemmas.{grown, same_size, shrunk}
use Rattle.su_perform.proofs.truncate.AcceptedTruncate.perform.Goals as goal

pub returns-then-old_size-new_size-clause-loaded : goal.returns-then-old_size-new_size-clause-loaded
returns-then-old_size-new_size-clause-loaded c T h is has =
    let x = c.args.self.now in
    let small : x.truncate.now.size < 2 ^ 32 = search rules in
    c.grow.ensures.loaded T h (grown c.args.forest.now T h x.place x.size x.truncate.now.size is c.if-old_size-new_size.true small has)

pub returns-then-new_size-old_size-clause-ok : goal.returns-then-new_size-old_size-clause-ok
returns-then-new_size-old_size-clause-ok c T h is has =
    let x = c.args.self.now in
    let small : x.size < 2 ^ 32 = search rules in
    let less = c.if-new_size-old_size.true in
    let within : x.truncate.now.size ≤ size_at T x.place = omega (arith, is, less) in
    subst (λ s. Stands c.cut.new.self (edit T (Inodes x.place (Resized s x.truncate.now.size)))) is
    (c.cut.ensures.stands T h (shrunk c.args.forest.now T h x.place x.size x.truncate.now.size is less small has) within)

pub returns-else-new_size-old_size-clause-ok : goal.returns-else-new_size-old_size-clause-ok
returns-else-new_size-old_size-clause-ok c T h is has =
    let x = c.args.self.now in
    let a = c.if-old_size-new_size.false in
    let b = c.if-new_size-old_size.false in
    let same : x.size ≡ x.truncate.now.size = omega (arith, a, b) in
    subst (λ s. Stands c.args.forest.now (edit T (Inodes x.place (Resized x.size s)))) same (subst (Stands c.args.forest.now) (sym (same_size T x.place x.size is)) h)
