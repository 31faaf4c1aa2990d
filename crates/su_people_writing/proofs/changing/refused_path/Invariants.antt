use Rattle.std.proofs.Common.{◌-◌, ◌≤◌, length}
use Rattle.su_people_writing.proofs.changing.refused_path.Given as goal

abbrev pub invariant-loop-refused : goal.invariant-loop-refused
invariant-loop-refused g l = record { in_order : l.planned ≤ l.refused; within : l.refused ≤ length l.commands }

abbrev pub decreases-loop-refused : goal.decreases-loop-refused
decreases-loop-refused g l = l.refused - l.planned
