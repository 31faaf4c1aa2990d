use Rattle.su_message.specs.declared.requests.Request.TheVariants.{Get}
use Rattle.su_client.proofs.Joining.{given_before, item_told, refused_before}
use Rattle.su_client.proofs.clients.ClientBlockSource.get.Goals as goal

pub returns-in-Ok-clause-given : goal.returns-in-Ok-clause-given
returns-in-Ok-clause-given g c = item_told c.in-Ok.item.items (Get c.args.digest) c.args.self.now.link c.get_item.new.self.link c.in-Ok.ensures.got

pub returns-in-Ok-clause-no_more : goal.returns-in-Ok-clause-no_more
returns-in-Ok-clause-no_more g c = λ s. given_before s (Get c.args.digest) c.args.self.now.link c.get_item.new.self.link _ c.in-Ok.ensures.got

pub returns-in-Err-clause-no_more : goal.returns-in-Err-clause-no_more
returns-in-Err-clause-no_more g c = λ s. refused_before s (Get c.args.digest) c.args.self.now.link c.get_item.new.self.link c.in-Err.refusal c.in-Err.ensures.refused
