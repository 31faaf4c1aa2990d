use Rattle.std.proofs.Common.{◌<◌, length, take}
use Rattle.su_client.specs.Asking.{Writes}
use Rattle.su_client.proofs.wires.Wire.write_whole.Given as goal

abbrev pub invariant-loop : goal.invariant-loop
invariant-loop g l = (l.done < length l.bytes) × Writes (take l.done l.bytes) l.fn.self l.self
