use Rattle.su_client.specs.Following.{follows_on}
use Rattle.su_client.proofs.Public.{ahead_follows}
use Rattle.su_client_work.proofs.Turns.{stays_then}
use Rattle.su_client_work.proofs.members.Member.send_rest.Goals as goal

pub returns-then-not-send_ahead-clause-stays : goal.returns-then-not-send_ahead-clause-stays
returns-then-not-send_ahead-clause-stays g c = stays_then c.args.self.now c.loop-number.self c.send_ahead.new.self c.loop-number.invariant.stays c.send_ahead.ensures.stays

pub returns-then-not-send_ahead-clause-follows : goal.returns-then-not-send_ahead-clause-follows
returns-then-not-send_ahead-clause-follows g c =
    follows_on c.args.self.now.link c.loop-number.self.link c.send_ahead.new.self.link c.loop-number.invariant.follows
    (ahead_follows c.loop-number.self.link c.send_ahead.new.self.link c.send_ahead.ensures.ahead)

pub loop-number-preserved : goal.loop-number-preserved
loop-number-preserved g c = record {
  stays = stays_then c.args.self.now c.loop-number.self c.send_ahead.new.self c.loop-number.invariant.stays c.send_ahead.ensures.stays;
  follows = follows_on c.args.self.now.link c.loop-number.self.link c.send_ahead.new.self.link c.loop-number.invariant.follows
      (ahead_follows c.loop-number.self.link c.send_ahead.new.self.link c.send_ahead.ensures.ahead);
}
