use Rattle.std.proofs.Common.{◌≡◌, ◌++◌, take}
use Rattle.std.specs.List.{flat_map}
use Rattle.su_format.specs.Part.{u64_bytes}
use Rattle.su_version.proofs.versions.write_vector.Given as goal

abbrev pub invariant-loop-number : goal.invariant-loop-number
invariant-loop-number l = l.writer ≡ l.initial.writer ++ flat_map u64_bytes (take l.number-index l.numbers)
