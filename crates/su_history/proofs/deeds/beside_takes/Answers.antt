use Rattle.std.proofs.Common.{◌∙◌, ap, sym}
use Rattle.std.specs.List.{filter}
use Rattle.su_history.specs.Line.{is_no_take}
use Rattle.su_history.proofs.RowLemmas.{first_found}
use Rattle.su_history.proofs.deeds.beside_takes.Goals as goal

pub returns-then-is_no_take-2 : goal.returns-then-is_no_take-2
returns-then-is_no_take-2 c =
    let l = c.loop-index in
    ap (filter is_no_take) c.parts.ensures
    ∙ first_found c.parts.result.0.now c.parts.result.1.now l.index c.index-more-index.result (sym c.is_no_take.ensures ∙ c.if-is_no_take.false) l.invariant c.loop-index-test.true c.index-more-index.is
    (sym c.is_no_take-in-loop-index.ensures ∙ c.if-is_no_take-2.true)
