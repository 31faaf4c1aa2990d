use Rattle.su_client.specs.Following.{follows_on}
use Rattle.su_client_work.proofs.Turns.{stays_then}
use Rattle.su_client_work.proofs.members.Member.send_fetches.Goals as goal

pub returns-then-not-send_fetch-clause-stays : goal.returns-then-not-send_fetch-clause-stays
returns-then-not-send_fetch-clause-stays g c = stays_then c.args.self.now c.loop-before.self c.send_fetch.new.self c.loop-before.invariant.stays c.send_fetch.ensures.stays

pub returns-then-not-send_fetch-clause-follows : goal.returns-then-not-send_fetch-clause-follows
returns-then-not-send_fetch-clause-follows g c = follows_on c.args.self.now.link c.loop-before.self.link c.send_fetch.new.self.link c.loop-before.invariant.follows c.send_fetch.ensures.follows

pub loop-before-preserved : goal.loop-before-preserved
loop-before-preserved g c = record {
  stays = stays_then c.args.self.now c.loop-before.self c.send_fetch.new.self c.loop-before.invariant.stays c.send_fetch.ensures.stays;
  follows = follows_on c.args.self.now.link c.loop-before.self.link c.send_fetch.new.self.link c.loop-before.invariant.follows c.send_fetch.ensures.follows;
}
