use Rattle.su_client.specs.Following.{follows_on}
use Rattle.su_people_session.proofs.walks.names_in.Goals as goal

pub returns-clause-follows : goal.returns-clause-follows
returns-clause-follows g c =
    follows_on c.args.member.now.link c.list_held.new.self.link c.stats_of.new.member.link c.list_held.ensures.follows c.stats_of.ensures.follows

pub returns-in_err-stats-clause-follows : goal.returns-in_err-stats-clause-follows
returns-in_err-stats-clause-follows g c =
    follows_on c.args.member.now.link c.list_held.new.self.link c.stats_of.new.member.link c.list_held.ensures.follows c.stats_of.ensures.follows
