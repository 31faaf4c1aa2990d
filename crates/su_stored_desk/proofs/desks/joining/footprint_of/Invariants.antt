use Rattle.std.proofs.Common.{◌≡◌, ◌+◌, ◌-◌}
use Rattle.su_stored_desk.specs.Joined.{all_read, all_written, live_from}
use Rattle.su_stored_desk.proofs.desks.joining.footprint_of.Given as goal

abbrev pub invariant-loop-earlier : goal.invariant-loop-earlier
invariant-loop-earlier l = record {
  read : l.reads.items ≡ all_read (live_from (l.before + 1) (l.earlier - l.before) l.kept);
  written : l.writes.items ≡ all_written (live_from (l.before + 1) (l.earlier - l.before) l.kept);
}
