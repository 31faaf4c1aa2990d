use Rattle.su_person.proofs.steps.+plan_some.Given as goal

abbrev pub decreases-plan_some : goal.decreases-plan_some
decreases-plan_some g l = l.count
