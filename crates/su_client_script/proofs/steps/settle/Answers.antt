use Rattle.std.proofs.Common.{subst}
use Rattle.su_client_work.specs.Member.{MemberState}
use Rattle.su_client_script.specs.Leaving.{Leaves}
use Rattle.su_client_script.proofs.Leaving.{leaves_none}
use Rattle.su_client_script.proofs.steps.settle.Goals as goal

pub returns-in_err-step-clause-leaves : goal.returns-in_err-step-clause-leaves
returns-in_err-step-clause-leaves g c = leaves_none c.args.member.now c.explain.new.member c.explain.ensures.same

pub returns-clause-leaves : goal.returns-clause-leaves
returns-clause-leaves g c = subst (λ (s : MemberState). Leaves s c.leave.new.member) c.explain.ensures.same c.leave.ensures.leaves
