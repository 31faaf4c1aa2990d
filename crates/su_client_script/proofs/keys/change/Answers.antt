use Rattle.su_client_work.proofs.Public.{works_then}
use Rattle.su_client_script.proofs.keys.change.Goals as goal

pub returns-clause-works : goal.returns-clause-works
returns-clause-works g c =
    works_then c.args.member.now c.move_on.new.member c.change.new.self c.move_on.ensures.works c.change.ensures.works
