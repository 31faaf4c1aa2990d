use Rattle.su_client.specs.Following.{follows_itself, follows_on}
use Rattle.su_client.proofs.links.Link.pass_to.Goals as goal

pub returns-in_default-clause-follows : goal.returns-in_default-clause-follows
returns-in_default-clause-follows g c = follows_itself c.args.self.now

pub loop-init : goal.loop-init
loop-init g c = (follows_itself c.args.self.now, λ s may. may)

pub loop-preserved : goal.loop-preserved
loop-preserved g c = (
  follows_on c.args.self.now c.loop.self c.pass_one.new.self c.loop.invariant.0 c.pass_one.ensures.follows,
  λ s may. c.loop.invariant.1 s (c.pass_one.ensures.no_more s may),
)
