use Rattle.std.proofs.Common.{nat_cmp}
use Rattle.std.specs.BTreeMap.{is_at}
use Rattle.su_live.proofs.Tests.{up_to_test}
use Rattle.su_live.proofs.LiveLemmas.{found_at, none_greater_there}
use Rattle.su_live.proofs.BoxLemmas.{none_boxed, there_boxed}
use Rattle.su_live.proofs.live.LiveOperations.number_up_to.Goals as goal

pub returns-in-Some-clause-last : goal.returns-in-Some-clause-last
returns-in-Some-clause-last g c =
    let facts = c.range.ensures.in_range tt in
    none_greater_there c.args.number c.in-Some.last.now _ _ _ c.args.self.now c.self.invariant c.self.view_is
    (λ q within there. facts.4 _ _ c.in-Some.ensures.steps q (tt, up_to_test q c.args.number within) (there_boxed (is_at (nat_cmp q)) c.self.inside.operations.entries there))

pub returns-in-None-clause-none : goal.returns-in-None-clause-none
returns-in-None-clause-none g c q within =
    found_at q _ _ _ c.args.self.now c.self.invariant c.self.view_is
    (none_boxed (is_at (nat_cmp q)) c.self.inside.operations.entries
    ((c.range.ensures.in_range tt).5 c.in-None.ensures.steps.0 q (tt, up_to_test q c.args.number within)))
