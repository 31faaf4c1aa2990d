use Rattle.su_client.proofs.Public.{ahead_itself, ahead_on}
use Rattle.su_client_work.proofs.early.Early.send_fetches.Goals as goal

pub loop-index-init : goal.loop-index-init
loop-index-init g c = ahead_itself c.args.client.now.link

pub returns-then-not-send_ahead : goal.returns-then-not-send_ahead
returns-then-not-send_ahead g c = ahead_on c.args.client.now.link c.loop-index.client.link c.send_ahead.new.self.link c.loop-index.invariant c.send_ahead.ensures.ahead

pub loop-index-preserved : goal.loop-index-preserved
loop-index-preserved g c = ahead_on c.args.client.now.link c.loop-index.client.link c.send_ahead.new.self.link c.loop-index.invariant c.send_ahead.ensures.ahead
