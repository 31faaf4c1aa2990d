use Rattle.std.proofs.Common.{◌≡◌, ℕ, ◌+◌, max, length, List}
use Rattle.su_node.specs.InodeChange.{with_bytes_at}
use Rattle.su_part.specs.Bytes.{StandsBytes, WithPlaces, HasPlaces, AreReady}
use Rattle.su_part.proofs.blocks.PartBytes.make_ready.Given as goal

abbrev pub invariant-loop-number : goal.invariant-loop-number
invariant-loop-number l = record {
  ready : (bs : List ℕ) → StandsBytes l.fn.self bs → l.size ≡ max (l.off + length l.bytes) (length bs) → AreReady l.first l.number (with_bytes_at l.off l.bytes bs) l.all.entries;
  places : HasPlaces l.first l.number l.self;
  same : WithPlaces l.fn.self l.self;
}
