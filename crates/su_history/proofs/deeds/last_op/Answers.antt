use Rattle.std.proofs.Common.{◌∙◌, sym, arith}
use Rattle.su_history.proofs.RowLemmas.{last_found}
use Rattle.su_history.proofs.deeds.last_op.Goals as goal

pub returns-then-is_no_take : goal.returns-then-is_no_take
returns-then-is_no_take c =
    let l = c.loop-index in
    last_found c.args.first.now c.args.behind.now l.index c.index-behind-index.result (omega (arith, c.loop-index-test.true)) l.invariant.within c.index-behind-index.is
    (sym c.is_no_take.ensures ∙ c.if-is_no_take.true) l.invariant.takes
