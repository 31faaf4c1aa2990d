use Rattle.su_client.proofs.Ahead.{given_ahead}
use Rattle.su_client.proofs.clients.Client.send_ahead.Goals as goal

pub returns-clause-no_more : goal.returns-clause-no_more
returns-clause-no_more g c = λ s. given_ahead s c.args.self.now.link c.send_ahead.new.self c.send_ahead.ensures
