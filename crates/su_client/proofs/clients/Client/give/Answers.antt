use Rattle.su_message.specs.declared.requests.Request.TheVariants.{Give}
use Rattle.su_client.proofs.Following.{follows_unasked, follows_refused}
use Rattle.su_client.proofs.clients.Client.give.Goals as goal

pub returns-in_err-reply-clause-follows : goal.returns-in_err-reply-clause-follows
returns-in_err-reply-clause-follows g c = follows_unasked Give c.args.self.now.link c.ask.new.self c.in_err-reply.field-0.0 c.in_err-reply.ensures

pub returns-clause-follows : goal.returns-clause-follows
returns-clause-follows g c = follows_refused Give c.args.self.now.link c.refusal.new.self c.refusal.result (c.refusal.ensures.refused c.args.self.now.link c.in_ok-reply.ensures)
