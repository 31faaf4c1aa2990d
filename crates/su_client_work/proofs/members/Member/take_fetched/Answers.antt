use Rattle.std.proofs.Common.{inr, subst, Option}
use Rattle.std.specs.Prelude.{IfNone}
use Rattle.su_client.specs.Following.{follows_on}
use Rattle.su_client_work.specs.Turn.{SaysNothing}
use Rattle.su_client_work.proofs.Taking.{only_stays, only_then}
use Rattle.su_client_work.proofs.Turns.{more_after}
use Rattle.su_client_work.proofs.members.Member.take_fetched.Goals as goal

pub returns-in-Ok-Some-clause-takes : goal.returns-in-Ok-Some-clause-takes
returns-in-Ok-Some-clause-takes g c =
    only_then c.args.self.now c.fetch_alone.new.self c.take_bytes.new.self (only_stays c.args.self.now c.fetch_alone.new.self c.fetch_alone.ensures.stays) c.take_bytes.ensures.takes

pub returns-in-Ok-Some-clause-follows : goal.returns-in-Ok-Some-clause-follows
returns-in-Ok-Some-clause-follows g c =
    follows_on c.args.self.now.link c.fetch_alone.new.self.link c.take_bytes.new.self.link c.fetch_alone.ensures.follows c.take_bytes.ensures.follows

pub returns-in-Ok-Some-clause-more : goal.returns-in-Ok-Some-clause-more
returns-in-Ok-Some-clause-more g c =
    more_after c.take_bytes.result c.args.self.now.holding c.fetch_alone.new.self.holding c.take_bytes.new.self.holding c.args.self.now.link c.fetch_alone.new.self.link c.take_bytes.new.self.link
    c.fetch_alone.ensures.stays.holding c.fetch_alone.ensures.follows c.take_bytes.ensures.more

pub returns-in-Ok-None-clause-takes : goal.returns-in-Ok-None-clause-takes
returns-in-Ok-None-clause-takes g c = only_stays c.args.self.now c.fetch_alone.new.self c.fetch_alone.ensures.stays

pub returns-in-Ok-None-clause-more : goal.returns-in-Ok-None-clause-more
returns-in-Ok-None-clause-more g c =
    inr (subst (λ (o : Option _). IfNone o (SaysNothing c.args.self.now.link c.fetch_alone.new.self.link)) c.in-Ok-None.field-0-is c.in-Ok-None.ensures.nothing)

pub returns-in-Err-clause-takes : goal.returns-in-Err-clause-takes
returns-in-Err-clause-takes g c = only_stays c.args.self.now c.fetch_alone.new.self c.fetch_alone.ensures.stays
