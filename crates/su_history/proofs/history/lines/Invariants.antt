use Rattle.std.proofs.Common.{◌≡◌, ◌≤◌, ◌-◌, ◌++◌, length, map, drop}
use Rattle.su_history.specs.Line.{line_of, numbered, runs}
use Rattle.su_history.proofs.history.lines.Given as goal

abbrev pub invariant-loop-first : goal.invariant-loop-first
invariant-loop-first l = record {
  within : l.first ≤ length l.entries;
  lines : map line_of (runs (numbered l.entries)) ≡ l.lines.items ++ map line_of (runs (drop l.first (numbered l.entries)));
}

abbrev pub decreases-loop-first : goal.decreases-loop-first
decreases-loop-first l = length l.entries - l.first
