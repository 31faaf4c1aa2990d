use Rattle.su_client.proofs.Following.{fails_after}
use Rattle.su_client.proofs.links.Link.refusal.Goals as goal

pub returns-in_default-clause-refused : goal.returns-in_default-clause-refused
returns-in_default-clause-refused g c = λ a exchanged. fails_after c.args.request.now a c.args.self.now c.fail.new.self c.args.reply.now c.fail.result exchanged c.fail.ensures.refusal c.fail.ensures.failed

pub returns-else-may_refuse-clause-refused : goal.returns-else-may_refuse-clause-refused
returns-else-may_refuse-clause-refused g c = λ a exchanged. fails_after c.args.request.now a c.args.self.now c.fail-else-may_refuse.new.self c.args.reply.now c.fail-else-may_refuse.result exchanged c.fail-else-may_refuse.ensures.refusal c.fail-else-may_refuse.ensures.failed

pub returns-in-None-clause-refused : goal.returns-in-None-clause-refused
returns-in-None-clause-refused g c = λ a exchanged. fails_after c.args.request.now a c.args.self.now c.fail-in-None.new.self c.args.reply.now c.fail-in-None.result exchanged c.fail-in-None.ensures.refusal c.fail-in-None.ensures.failed
