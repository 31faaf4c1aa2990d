use Rattle.su_client.proofs.Public.{ahead_on}
use Rattle.su_client_work.proofs.early.Early.send_turn.Goals as goal

pub returns-then-self : goal.returns-then-self
returns-then-self g c = ahead_on c.args.client.now.link c.send_ahead-self.new.self.link c.send_fetches.new.client.link c.send_ahead-self.ensures.ahead c.send_fetches.ensures
