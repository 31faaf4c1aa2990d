use Rattle.std.proofs.Common.{◌∙◌, ◌++◌, sym, ap, append-nil, Option}
use Rattle.std.specs.Prelude.{option_to_list}
use Rattle.su_version.specs.Commit.{Commit}
use Rattle.su_client.specs.Following.{follows_on}
use Rattle.su_client_work.proofs.Turns.{is_shown}
use Rattle.su_client_work.proofs.members.Member.fetch_shown.Goals as goal

pub returns-in_err-commit-clause-follows : goal.returns-in_err-commit-clause-follows
returns-in_err-commit-clause-follows g c = follows_on c.args.self.now.link c.turn_to.new.self.link c.fetch_commit.new.self.link c.turn_to.ensures.follows c.fetch_commit.ensures.follows

pub returns-in_err-push-in-Some-clause-follows : goal.returns-in_err-push-in-Some-clause-follows
returns-in_err-push-in-Some-clause-follows g c = follows_on c.args.self.now.link c.turn_to.new.self.link c.fetch_commit.new.self.link c.turn_to.ensures.follows c.fetch_commit.ensures.follows

pub returns-in_ok-push-in-Some-clause-follows : goal.returns-in_ok-push-in-Some-clause-follows
returns-in_ok-push-in-Some-clause-follows g c = follows_on c.args.self.now.link c.turn_to.new.self.link c.fetch_commit.new.self.link c.turn_to.ensures.follows c.fetch_commit.ensures.follows

pub returns-in-None-clause-follows : goal.returns-in-None-clause-follows
returns-in-None-clause-follows g c = follows_on c.args.self.now.link c.turn_to.new.self.link c.fetch_commit.new.self.link c.turn_to.ensures.follows c.fetch_commit.ensures.follows

pub returns-in_ok-push-in-Some-clause-shown : goal.returns-in_ok-push-in-Some-clause-shown
returns-in_ok-push-in-Some-clause-shown g c = λ u there.
    is_shown c.args.last.now c.args.index c.index-last-index.result u c.args.shown.now.commits.items c.push.new.self.commits.items c.args.self.now.link c.turn_to.new.self.link
    c.fetch_commit.new.self.link c.in_ok-commit.field-0 there c.turn_to.ensures.follows c.in_ok-commit.ensures.shown
    (c.in_ok-push-in-Some.ensures ∙ ap (λ (o : Option Commit). c.args.shown.now.commits.items ++ option_to_list o) (sym c.in-Some.is))

pub returns-in-None-clause-shown : goal.returns-in-None-clause-shown
returns-in-None-clause-shown g c = λ u there.
    is_shown c.args.last.now c.args.index c.index-last-index.result u c.args.shown.now.commits.items c.args.shown.now.commits.items c.args.self.now.link c.turn_to.new.self.link
    c.fetch_commit.new.self.link c.in_ok-commit.field-0 there c.turn_to.ensures.follows c.in_ok-commit.ensures.shown
    (sym (append-nil c.args.shown.now.commits.items) ∙ ap (λ (o : Option Commit). c.args.shown.now.commits.items ++ option_to_list o) (sym c.in-None.is))
