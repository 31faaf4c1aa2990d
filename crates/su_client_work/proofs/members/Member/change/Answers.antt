use Rattle.std.proofs.Common.{inl}
use Rattle.std.proofs.lemmas.Result.{err_from_is_err_and}
use Rattle.su_client_work.specs.Publishing.{always}
use Rattle.su_client_work.proofs.Turns.{comes_on}
use Rattle.su_client_work.proofs.Undoing.{over_so}
use Rattle.su_client_work.proofs.Working.{commits_none, commits_then, works_takes, works_then}
use Rattle.su_client_work.proofs.members.Member.change.Goals as goal

pub returns-in_err-begin-clause-works : goal.returns-in_err-begin-clause-works
returns-in_err-begin-clause-works g c = works_takes c.args.self.now c.begin.new.self c.begin.ensures.takes

pub returns-in_err-begin-clause-signs : goal.returns-in_err-begin-clause-signs
returns-in_err-begin-clause-signs g c = commits_none (always c.args.change) c.args.self.now _ c.begin.new.self c.begin.ensures.takes

pub returns-clause-works : goal.returns-clause-works
returns-clause-works g c =
    works_then c.args.self.now c.begin.new.self c.publish.new.self (works_takes c.args.self.now c.begin.new.self c.begin.ensures.takes) c.publish.ensures.works

pub returns-clause-signs : goal.returns-clause-signs
returns-clause-signs g c =
    commits_then (always c.args.change) c.args.self.now c.begin.new.self c.publish.result c.publish.new.self c.begin.ensures.takes c.publish.ensures.works.clear c.publish.ensures.signs
    c.publish.ensures.err

pub returns-clause-link : goal.returns-clause-link
returns-clause-link g c = comes_on _ c.args.self.now.link c.begin.new.self.link c.publish.new.self.link c.begin.ensures.link c.publish.ensures.follows

pub returns-in_err-begin-clause-over : goal.returns-in_err-begin-clause-over
returns-in_err-begin-clause-over g c =
    let p = err_from_is_err_and c.from_residual.result c.from_residual.ensures.1 in
    rw (p.1, p.2) (inl c.in_err-begin.ensures.refused)

pub returns-clause-over : goal.returns-clause-over
returns-clause-over g c = over_so _ c.publish.result c.args.change c.args.self.now c.begin.new.self c.publish.new.self c.in_ok-begin.ensures.turn c.publish.ensures.ends
