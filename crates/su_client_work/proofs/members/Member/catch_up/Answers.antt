use Rattle.std.proofs.Common.{ap, subst, List}
use Rattle.std.specs.Prelude.{OnOk}
use Rattle.su_bytes.specs.Order.{Passes}
use Rattle.su_version.specs.Commit.{Commit}
use Rattle.su_view.specs.Holding.{HoldingState}
use Rattle.su_view.specs.LastCommits.{shown_order}
use Rattle.su_client.specs.Following.{follows_on}
use Rattle.su_client_work.specs.Member.{MemberState}
use Rattle.su_client_work.proofs.Turns.{caught_so, passes_shown}
use Rattle.su_client_work.proofs.Taking.{only_stays, only_then}
use Rattle.su_client_work.proofs.members.Member.catch_up.Goals as goal

pub returns-in_err-take_up_to-clause-follows : goal.returns-in_err-take_up_to-clause-follows
returns-in_err-take_up_to-clause-follows g c = follows_on c.args.self.now.link c.last_commits.new.self.link c.take_up_to.new.self.link c.last_commits.ensures.follows c.take_up_to.ensures.follows

pub returns-clause-follows : goal.returns-clause-follows
returns-clause-follows g c = follows_on c.args.self.now.link c.last_commits.new.self.link c.take_up_to.new.self.link c.last_commits.ensures.follows c.take_up_to.ensures.follows

pub returns-clause-passes : goal.returns-clause-passes
returns-clause-passes g c =
    passes_shown c.check_list.result c.take_up_to.new.self.holding c.args.last.now c.in_ok-shown.shown.commits.items c.args.self.now.link c.last_commits.new.self.link c.take_up_to.new.self.link
    c.in_ok-shown.ensures.shown c.take_up_to.ensures.follows
    (subst (λ (v : HoldingState). OnOk c.check_list.result (Passes (shown_order v c.in_ok-shown.shown.commits.items))) (ap (λ (x : MemberState). x.holding) c.self.view_is)
    (subst (λ (cs : List Commit). OnOk c.check_list.result (Passes (shown_order c.self.inside.view.holding cs))) c.commits.ensures c.check_list.ensures.passes))

pub returns-clause-caught_up : goal.returns-clause-caught_up
returns-clause-caught_up g c =
    caught_so c.check_list.result c.args.count c.take_up_to.new.self.holding c.args.self.now.link c.last_commits.new.self.link c.take_up_to.new.self.link
    c.last_commits.ensures.follows c.in_ok-take_up_to.ensures.caught_up

pub returns-in_err-shown-clause-takes : goal.returns-in_err-shown-clause-takes
returns-in_err-shown-clause-takes g c = only_stays c.args.self.now c.last_commits.new.self c.last_commits.ensures.stays

pub returns-in_err-take_up_to-clause-takes : goal.returns-in_err-take_up_to-clause-takes
returns-in_err-take_up_to-clause-takes g c =
    only_then c.args.self.now c.last_commits.new.self c.take_up_to.new.self (only_stays c.args.self.now c.last_commits.new.self c.last_commits.ensures.stays) c.take_up_to.ensures.takes

pub returns-clause-takes : goal.returns-clause-takes
returns-clause-takes g c =
    only_then c.args.self.now c.last_commits.new.self c.take_up_to.new.self (only_stays c.args.self.now c.last_commits.new.self c.last_commits.ensures.stays) c.take_up_to.ensures.takes
