use Rattle.std.proofs.Common.{ℕ, ◌<◌, ◌≤◌, IsTrue}
use Rattle.std.specs.Prelude.{Ok}
use Rattle.su_tree.specs.Number.{number_bits}
use Rattle.su_part_tree.specs.Part.{reaches}
use Rattle.su_part.specs.Fetches.{LoadsBytes}
use Rattle.su_part.proofs.blocks.PartBytes.fetch_paths.Given as goal

abbrev pub invariant-loop-number : goal.invariant-loop-number
invariant-loop-number g l = record {
  loads : LoadsBytes {A = Unit {0}} g.S.BlockSource.may_give g.S.BlockSource.failed g.S.BlockSource.follows l.fn.self l.self l.fn.source l.source (Ok tt);
  has : (n : ℕ) → l.first ≤ n → n < l.number-counter → IsTrue (reaches number_bits n l.self.digests);
}
