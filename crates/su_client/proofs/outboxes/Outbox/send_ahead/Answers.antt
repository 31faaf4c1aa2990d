use Rattle.std.proofs.Common.{◌∙◌}
use Rattle.su_client.proofs.Ahead.{ahead_on}
use Rattle.su_client.proofs.outboxes.Outbox.send_ahead.Goals as goal

pub returns-then-not-send_next-clause-ahead : goal.returns-then-not-send_next-clause-ahead
returns-then-not-send_next-clause-ahead g c = ahead_on c.args.self.now.client.link c.loop.self.client.link c.send_next.new.self.client.link c.loop.invariant.0 c.send_next.ensures.ahead

pub loop-preserved : goal.loop-preserved
loop-preserved g c = (
  ahead_on c.args.self.now.client.link c.loop.self.client.link c.send_next.new.self.client.link c.loop.invariant.0 c.send_next.ensures.ahead,
  λ s may. c.loop.invariant.1 s (c.send_next.ensures.no_more s may),
  c.send_next.ensures.waiting ∙ c.loop.invariant.2,
  c.send_next.ensures.at_hand ∙ c.loop.invariant.3,
  c.send_next.ensures.failures ∙ c.loop.invariant.4,
)
