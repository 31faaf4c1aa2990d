use Rattle.std.proofs.Common.{◌≡◌, List, ℕ, Some}
use Rattle.su_log_ahead.specs.Ahead.{IsLeft}
use Rattle.su_audit.proofs.AuditLemmas.{Stands}
use Rattle.su_audit.proofs.audits.run_audit.Given as goal

abbrev pub invariant-loop-number : goal.invariant-loop-number
invariant-loop-number g l = record {
  stands : (log : List ℕ) → g.R.Read.remaining l.fn.reader ≡ Some log
      → Stands l.fn.roster log l.view.holding l.items.items (IsLeft l.log) l.number;
  writer : g.W.Write.contents l.writer ≡ g.W.Write.contents l.fn.writer;
}
