use Rattle.su_client.specs.Following.{follows_on}
use Rattle.su_client_work.proofs.Turns.{nothing_said}
use Rattle.su_client_work.proofs.members.Member.fetch_alone.Goals as goal

pub returns-clause-follows : goal.returns-clause-follows
returns-clause-follows g c = follows_on c.args.self.now.link c.pass_over.new.self.link c.fetch.new.self.link c.pass_over.ensures.follows c.fetch.ensures.follows

pub returns-clause-nothing : goal.returns-clause-nothing
returns-clause-nothing g c = nothing_said c.fetch.result c.args.number c.args.self.now.link c.pass_over.new.self.link c.fetch.new.self.link c.pass_over.ensures.follows c.fetch.ensures.fetched
