use Rattle.std.proofs.Common.{◌≡◌, ◌∙◌, ◌-◌, true, get_or, ⊎_elim, sym, subst, arith}
use Rattle.std.proofs.lemmas.Bool.{cases_lt}
use Rattle.su_history.specs.Line.{goes_on, numbered}
use Rattle.su_history.proofs.runs.end_of_run.Goals as goal

pub loop-index-preserved : goal.loop-index-preserved
loop-index-preserved c = λ i d low high.
    let es = numbered c.args.entries.now in
    ⊎_elim (λ before. c.loop-index.invariant i d low before)
    (λ here. subst (λ k. goes_on (get_or es (k - 1) d) (get_or es k d) ≡ true) (omega (arith, here, high)) (sym (c.goes_on.ensures d) ∙ c.if-not-goes_on.false))
    (cases_lt i c.loop-index.index)
