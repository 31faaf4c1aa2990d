use Rattle.std.proofs.Common.{◌≡◌, ◌-◌, ◌<◌, ℕ, true, get_or}
use Rattle.su_history.specs.Line.{NumberedEntry, goes_on, numbered}
use Rattle.su_history.proofs.runs.end_of_run.Given as goal

abbrev pub invariant-loop-index : goal.invariant-loop-index
invariant-loop-index l = (i : ℕ) (d : NumberedEntry) → l.first < i → i < l.index → goes_on (get_or (numbered l.entries) (i - 1) d) (get_or (numbered l.entries) i d) ≡ true
