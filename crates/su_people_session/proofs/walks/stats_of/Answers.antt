use Rattle.std.proofs.Common.{refl}
use Rattle.su_client.specs.Following.{follows_itself, follows_on}
use Rattle.su_client_work.proofs.Public.{asks_stays, asks_then}
use Rattle.su_people_session.proofs.walks.stats_of.Goals as goal

pub loop-file-init : goal.loop-file-init
loop-file-init g c =
    let s = c.args.member.now in
    record {
      asks = asks_stays s s (record { holding = refl; asked = refl; signed = refl; next = refl });
      follows = follows_itself s.link;
    }

pub loop-file-preserved : goal.loop-file-preserved
loop-file-preserved g c =
    let l = c.loop-file in
    record {
      asks = asks_then c.args.member.now l.member c.stat_held.new.self l.invariant.asks c.stat_held.ensures.asks;
      follows = follows_on c.args.member.now.link l.member.link c.stat_held.new.self.link l.invariant.follows c.stat_held.ensures.follows;
    }

pub returns-in_err-stat-clause-follows : goal.returns-in_err-stat-clause-follows
returns-in_err-stat-clause-follows g c =
    follows_on c.args.member.now.link c.loop-file.member.link c.stat_held.new.self.link c.loop-file.invariant.follows c.stat_held.ensures.follows

pub returns-in_err-push-clause-follows : goal.returns-in_err-push-clause-follows
returns-in_err-push-clause-follows g c =
    follows_on c.args.member.now.link c.loop-file.member.link c.stat_held.new.self.link c.loop-file.invariant.follows c.stat_held.ensures.follows
