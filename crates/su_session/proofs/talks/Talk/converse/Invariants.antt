use Rattle.std.proofs.Common.{◌≡◌, ◌≤◌, length}
use Rattle.su_session.specs.Step.{Goes, at}
use Rattle.su_session.proofs.talks.Talk.converse.Given as goal

abbrev pub invariant-loop : goal.invariant-loop
invariant-loop g l =
    (l.self.reads ≡ l.counter) × (x : Goes g.S.Service.answers (at l.fn.service l.fn.self (g.R.Read.remaining l.fn.reader) (g.W.Write.contents l.fn.writer)) (at l.service l.self (g.R.Read.remaining l.reader) (g.W.Write.contents l.writer))) × (l.counter ≤ length x.input)
