use Rattle.std.proofs.Common.{refl}
use Rattle.su_client_script.proofs.Leaving.{leaves_none}
use Rattle.su_client_script.proofs.steps.leave.Goals as goal

pub returns-then-not-is_due-clause-leaves : goal.returns-then-not-is_due-clause-leaves
returns-then-not-is_due-clause-leaves g c = leaves_none c.args.member.now c.args.member.now refl

pub returns-then-not-leaves-clause-leaves : goal.returns-then-not-leaves-clause-leaves
returns-then-not-leaves-clause-leaves g c = leaves_none c.args.member.now c.args.member.now refl
