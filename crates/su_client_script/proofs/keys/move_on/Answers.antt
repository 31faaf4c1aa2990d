use Rattle.std.proofs.Common.{refl}
use Rattle.su_client_work.proofs.Public.{works_same}
use Rattle.su_client_script.proofs.keys.move_on.Goals as goal

pub returns-in-Some-clause-works : goal.returns-in-Some-clause-works
returns-in-Some-clause-works g c = works_same c.args.member.now c.args.member.now refl

pub returns-clause-works : goal.returns-clause-works
returns-clause-works g c = works_same c.args.member.now c.args.member.now refl
