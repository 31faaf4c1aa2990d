use Rattle.su_message.specs.declared.requests.Request.TheVariants.{Commit}
use Rattle.su_client.proofs.Following.{follows_refused}
use Rattle.su_client.proofs.clients.Client.commit.Goals as goal

pub returns-clause-follows : goal.returns-clause-follows
returns-clause-follows g c = follows_refused (Commit c.new.result) c.args.self.now.link c.refusal.new.self c.refusal.result (c.refusal.ensures.refused c.args.self.now.link c.in_ok-reply.ensures)
