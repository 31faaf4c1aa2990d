use Rattle.std.proofs.Common.{◌≡◌, ◌-◌, ◌*◌, take, drop, min}
use Rattle.std.specs.List.{concat}
use Rattle.su_node.proofs.blocks.Blocks.read.Given as goal

abbrev pub invariant-loop-number : goal.invariant-loop-number
invariant-loop-number l = l.bytes.items ≡ take (min l.end (4096 * l.number) - l.start) (drop l.start (concat l.self-inside.blocks))
