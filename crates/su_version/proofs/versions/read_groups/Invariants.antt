use Rattle.std.proofs.Common.{◌+◌}
use Rattle.su_format.proofs.Public.{GoesOn}
use Rattle.su_version.specs.Version.{carried_format}
use Rattle.su_version.proofs.versions.read_groups.Given as goal

abbrev pub invariant-loop : goal.invariant-loop
invariant-loop l =
    GoesOn carried_format (λ g. g.0 + 1) l.count 0 l.initial.reader l.counter l.least l.reader l.groups.items
