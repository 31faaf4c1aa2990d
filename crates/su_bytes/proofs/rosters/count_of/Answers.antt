use Rattle.std.proofs.Common.{sym, arith}
use Rattle.su_bytes.proofs.Memberships.{length-rising}
use Rattle.su_bytes.proofs.rosters.count_of.Goals as goal

pub overflow_cast-result : goal.overflow_cast-result
overflow_cast-result g c =
    let item = c.in-Some.ensures.item in
    let few = length-rising g.T.Numbered.number_of c.args.items.now c.in-Some.last.now c.requires item.3.0 (sym item.1) in
    omega (arith, few, c.number-number.ensures.value, c.number-number.ensures.range)
