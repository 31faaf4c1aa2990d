use Rattle.su_live.proofs.ReadersLemmas.{at, up_to, none_later, none_of_mark}
use Rattle.su_live.proofs.entering.last_up_to.Goals as goal

pub returns-then-last-mark-clause-last : goal.returns-then-last-mark-clause-last
returns-then-last-mark-clause-last c =
    let facts = c.range.ensures.in_range tt in
    none_later c.args.readers.now c.args.mark c.args.number c.in-Some.last.now
    (λ r within has. facts.4 _ _ c.in-Some.ensures.steps r (tt, within) has) c.if-last-mark.true

pub returns-else-last-mark-clause-none : goal.returns-else-last-mark-clause-none
returns-else-last-mark-clause-none c =
    let facts = c.range.ensures.in_range tt in
    none_of_mark c.args.readers.now c.args.mark c.args.number c.in-Some.last.now
    (λ r within has. facts.4 _ _ c.in-Some.ensures.steps r (tt, within) has) (facts.3 _ _ c.in-Some.ensures.steps).0.1 c.if-last-mark.false

pub returns-in-None-clause-none : goal.returns-in-None-clause-none
returns-in-None-clause-none c q within =
    (c.range.ensures.in_range tt).5 c.in-None.ensures.steps.0 (at c.args.mark q) (tt, up_to c.args.mark c.args.number q within)
