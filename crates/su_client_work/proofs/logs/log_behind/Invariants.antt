use Rattle.std.proofs.Common.{◌≡◌, ◌++◌, take}
use Rattle.su_client_work.specs.SavedLog.{saved_log}
use Rattle.su_client_work.proofs.logs.log_behind.Given as goal

-- behind that of the commits that are left out it is the log of those before this one
abbrev pub invariant-loop-before : goal.invariant-loop-before
invariant-loop-before g l =
    saved_log (take l.fn.from_ l.fn.view.holding.held) ++ l.log.items
    ≡ saved_log (take l.before l.fn.view.holding.held)
