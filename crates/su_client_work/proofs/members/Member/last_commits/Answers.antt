use Rattle.std.proofs.Common.{[]}
use Rattle.su_client.specs.Following.{follows_on}
use Rattle.su_client_work.proofs.Turns.{stays_then, shown_next}
use Rattle.su_client_work.proofs.members.Member.last_commits.Goals as goal

pub returns-in_err-fetch_shown-clause-follows : goal.returns-in_err-fetch_shown-clause-follows
returns-in_err-fetch_shown-clause-follows g c =
    follows_on c.args.self.now.link c.loop-index.self.link c.fetch_shown.new.self.link c.loop-index.invariant.follows c.fetch_shown.ensures.follows

pub loop-index-preserved : goal.loop-index-preserved
loop-index-preserved g c = record {
  stays = stays_then c.args.self.now c.loop-index.self c.fetch_shown.new.self c.loop-index.invariant.stays c.fetch_shown.ensures.stays;
  follows = follows_on c.args.self.now.link c.loop-index.self.link c.fetch_shown.new.self.link c.loop-index.invariant.follows c.fetch_shown.ensures.follows;
  shown = shown_next c.args.last.now c.loop-index.index [] c.args.self.now.link c.loop-index.shown.commits.items c.loop-index.self.link
      c.fetch_shown.new.shown.commits.items c.fetch_shown.new.self.link c.loop-index-test.true c.loop-index.invariant.shown c.in_ok-fetch_shown.ensures.shown;
}
