use Rattle.std.proofs.Common.{◌≡◌, ℕ, List, map, ◌⊎◌}
use Rattle.std.specs.List.{range_with_len}
use Rattle.sha2.specs.Sha256.{sha256}
use Rattle.su_node.specs.Digest.{block_item}
use Rattle.su_node.specs.Field.{block}
use Rattle.su_part_tree.specs.Putting.{Took}
use Rattle.su_left_blocks.proofs.PutLemmas.{IsAmong}
use Rattle.su_left_blocks.proofs.puts.put_blocks.Given as goal

-- the blocks before that number are put
abbrev pub invariant-loop-number : goal.invariant-loop-number
invariant-loop-number g l = record {
  digests : l.digests.items ≡ map (λ n. sha256 (block_item (block n l.bytes))) (range_with_len 0 l.number);
  put : (s : List ℕ) → IsAmong l.bytes l.number s → Took g.S.BlockSource.follows g.S.BlockSource.puts l.fn.source l.source s;
  more : (s : List ℕ) → g.S.BlockSource.may_give l.source s → g.S.BlockSource.may_give l.fn.source s ⊎ IsAmong l.bytes l.number s;
  follows : g.S.BlockSource.follows l.fn.source l.source;
}
