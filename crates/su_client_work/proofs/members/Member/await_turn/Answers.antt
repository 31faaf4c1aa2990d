use Rattle.su_client.specs.Following.{follows_itself, follows_on}
use Rattle.su_client_work.proofs.Turns.{granted_later, stays_itself, stays_then, ungranted_later}
use Rattle.su_client_work.proofs.members.Member.await_turn.Goals as goal

pub loop-init : goal.loop-init
loop-init g c = record {
  stays = stays_itself c.args.self.now;
  follows = follows_itself c.args.self.now.link;
}

pub returns-then-not-is_busy-clause-follows : goal.returns-then-not-is_busy-clause-follows
returns-then-not-is_busy-clause-follows g c =
    follows_on c.args.self.now.link c.loop.self.link c.ask_turn-answered.new.self.link c.loop.invariant.follows c.ask_turn-answered.ensures.follows

pub returns-then-not-is_busy-clause-granted : goal.returns-then-not-is_busy-clause-granted
returns-then-not-is_busy-clause-granted g c =
    granted_later c.ask_turn-answered.result c.args.self.now.link c.loop.self.link c.ask_turn-answered.new.self.link c.loop.invariant.follows c.ask_turn-answered.ensures.granted

pub returns-then-not-is_busy-clause-refused : goal.returns-then-not-is_busy-clause-refused
returns-then-not-is_busy-clause-refused g c =
    ungranted_later c.ask_turn-answered.result c.args.self.now.link c.loop.self.link c.ask_turn-answered.new.self.link c.loop.invariant.follows c.ask_turn-answered.ensures.refused

pub loop-preserved : goal.loop-preserved
loop-preserved g c = record {
  stays = stays_then c.args.self.now c.loop.self c.ask_turn-answered.new.self c.loop.invariant.stays c.ask_turn-answered.ensures.stays;
  follows = follows_on c.args.self.now.link c.loop.self.link c.ask_turn-answered.new.self.link c.loop.invariant.follows c.ask_turn-answered.ensures.follows;
}

pub returns-clause-follows : goal.returns-clause-follows
returns-clause-follows g c = follows_on c.args.self.now.link c.loop.self.link c.ask_turn.new.self.link c.loop.invariant.follows c.ask_turn.ensures.follows

pub returns-clause-granted : goal.returns-clause-granted
returns-clause-granted g c = granted_later c.ask_turn.result c.args.self.now.link c.loop.self.link c.ask_turn.new.self.link c.loop.invariant.follows c.ask_turn.ensures.granted

pub returns-clause-refused : goal.returns-clause-refused
returns-clause-refused g c = ungranted_later c.ask_turn.result c.args.self.now.link c.loop.self.link c.ask_turn.new.self.link c.loop.invariant.follows c.ask_turn.ensures.refused
