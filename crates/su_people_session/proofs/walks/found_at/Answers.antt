use Rattle.su_client.specs.Following.{follows_on}
use Rattle.su_people_session.proofs.walks.found_at.Goals as goal

pub returns-clause-follows : goal.returns-clause-follows
returns-clause-follows g c =
    follows_on c.args.member.now.link c.find_held.new.self.link c.found_as.new.member.link c.find_held.ensures.follows c.found_as.ensures.follows
