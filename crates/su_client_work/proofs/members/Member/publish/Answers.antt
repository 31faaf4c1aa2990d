use Rattle.su_client.specs.Following.{follows_on}
use Rattle.su_client_work.proofs.Published.{is_published, was_stored}
use Rattle.su_client_work.proofs.Working.{most_on, works_most, works_published}
use Rattle.su_client_work.proofs.members.Member.publish.Goals as goal

pub returns-in_err-commit-clause-works : goal.returns-in_err-commit-clause-works
returns-in_err-commit-clause-works g c = works_most c.args.self.now c.hand_in.new.self c.args.change c.hand_in.ensures.clear c.hand_in.ensures.signs c.hand_in.ensures.holding

pub returns-clause-works : goal.returns-clause-works
returns-clause-works g c =
    works_published c.args.self.now c.hand_in.new.self c.take_own.new.self c.args.change c.in_ok-commit.commit c.take_own.result c.hand_in.ensures.clear c.hand_in.ensures.signs
    c.hand_in.ensures.holding c.take_own.ensures.signs c.take_own.ensures.clear c.take_own.ensures.took c.take_own.ensures.err

pub returns-clause-signs : goal.returns-clause-signs
returns-clause-signs g c =
    most_on c.args.self.now.holding c.args.change c.args.self.now c.hand_in.new.self c.take_own.new.self c.hand_in.ensures.signs c.take_own.ensures.signs c.take_own.ensures.clear

pub returns-clause-follows : goal.returns-clause-follows
returns-clause-follows g c = follows_on c.args.self.now.link c.hand_in.new.self.link c.take_own.new.self.link c.hand_in.ensures.follows c.take_own.ensures.follows

pub returns-clause-published : goal.returns-clause-published
returns-clause-published g c =
    is_published c.take_own.result c.args.change c.in_ok-commit.commit c.args.self.now c.hand_in.new.self c.take_own.new.self c.in_ok-commit.ensures.stored c.hand_in.ensures.holding
    c.take_own.ensures.signs c.take_own.ensures.clear c.take_own.ensures.follows c.take_own.ensures.took

pub returns-clause-ends : goal.returns-clause-ends
returns-clause-ends g c =
    was_stored c.take_own.result c.args.change c.in_ok-commit.commit c.args.self.now c.hand_in.new.self c.take_own.new.self c.in_ok-commit.ensures.stored
    c.take_own.ensures.signs c.take_own.ensures.clear c.take_own.ensures.follows
