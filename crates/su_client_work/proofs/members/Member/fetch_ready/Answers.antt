use Rattle.su_client.specs.Following.{follows_on}
use Rattle.su_client_work.proofs.Turns.{stays_then}
use Rattle.su_client_work.proofs.members.Member.fetch_ready.Goals as goal

pub returns-in_err-fetch_one-clause-stays : goal.returns-in_err-fetch_one-clause-stays
returns-in_err-fetch_one-clause-stays g c = stays_then c.args.self.now c.loop-before.self c.fetch_one.new.self c.loop-before.invariant.stays c.fetch_one.ensures.stays

pub returns-in_err-fetch_one-clause-follows : goal.returns-in_err-fetch_one-clause-follows
returns-in_err-fetch_one-clause-follows g c = follows_on c.args.self.now.link c.loop-before.self.link c.fetch_one.new.self.link c.loop-before.invariant.follows c.fetch_one.ensures.follows

pub loop-before-preserved : goal.loop-before-preserved
loop-before-preserved g c = record {
  stays = stays_then c.args.self.now c.loop-before.self c.fetch_one.new.self c.loop-before.invariant.stays c.fetch_one.ensures.stays;
  follows = follows_on c.args.self.now.link c.loop-before.self.link c.fetch_one.new.self.link c.loop-before.invariant.follows c.fetch_one.ensures.follows;
}
