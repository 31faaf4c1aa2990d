use Rattle.std.proofs.Common.{◌≡◌, ◌++◌, take}
use Rattle.std.specs.List.{flat_map}
use Rattle.su_version.specs.Version.{group_bytes}
use Rattle.su_version.proofs.versions.write_groups.Given as goal

abbrev pub invariant-loop-group : goal.invariant-loop-group
invariant-loop-group l = l.writer ≡ l.initial.writer ++ flat_map group_bytes (take l.group-index l.groups)
