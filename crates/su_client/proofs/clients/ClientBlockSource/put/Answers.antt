use Rattle.su_message.specs.declared.requests.Request.TheVariants.{Put}
use Rattle.su_client.specs.Following.{follows_itself}
use Rattle.su_client.proofs.Joining.{given_before, refused_before}
use Rattle.su_client.proofs.clients.ClientBlockSource.put.Goals as goal

pub returns-then-eq-clause-no_more : goal.returns-then-eq-clause-no_more
returns-then-eq-clause-no_more g c = λ s. given_before s (Put c.in_ok-copy.copy.items) c.args.self.now.link c.put_item.new.self.link _ c.in-Ok.ensures.done

pub returns-in-Err-NoMemory-clause-no_more : goal.returns-in-Err-NoMemory-clause-no_more
returns-in-Err-NoMemory-clause-no_more g c = λ s. refused_before s (Put c.in_ok-copy.copy.items) c.args.self.now.link c.put_item.new.self.link c.in-Err-NoMemory.field-0 c.in-Err-NoMemory.ensures.refused

pub returns-then-is_empty-clause-follows : goal.returns-then-is_empty-clause-follows
returns-then-is_empty-clause-follows g c = follows_itself c.args.self.now.link
