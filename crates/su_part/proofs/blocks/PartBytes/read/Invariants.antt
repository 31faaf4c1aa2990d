use Rattle.std.proofs.Common.{◌≡◌, ◌-◌, ◌*◌, ℕ, List, take, drop, min}
use Rattle.su_part.specs.Bytes.{StandsBytes}
use Rattle.su_part.proofs.blocks.PartBytes.read.Given as goal

abbrev pub invariant-loop-number : goal.invariant-loop-number
invariant-loop-number l = (bs : List ℕ) → StandsBytes l.self bs → l.bytes.items ≡ take (min l.until (4096 * l.number) - l.start) (drop l.start bs)
