use Rattle.su_client_work.specs.Work.{Works}
use Rattle.su_person.proofs.StepLemmas.{SoFar}
use Rattle.su_person.proofs.carrying.carry.Given as goal

-- so far there were these steps, behind which these commands are left
abbrev pub invariant-loop : goal.invariant-loop
invariant-loop g l = record {
  works : Works l.fn.member l.member;
  so_far : SoFar l.others l.fn.commands l.fn.member l.fn.numbers.items l.member l.left l.numbers.items;
}
