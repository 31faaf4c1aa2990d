use Rattle.su_client.specs.Following.{follows_itself, follows_on}
use Rattle.su_client.proofs.links.Link.pass_ahead.Goals as goal

pub loop-init : goal.loop-init
loop-init g c = follows_itself c.args.self.now

pub loop-preserved : goal.loop-preserved
loop-preserved g c = follows_on c.args.self.now c.loop.self c.pass_one.new.self c.loop.invariant c.pass_one.ensures.follows
