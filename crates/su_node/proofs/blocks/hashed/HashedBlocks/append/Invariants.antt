use Rattle.std.proofs.Common.{◌≡◌, ℕ, ◌+◌, ◌*◌, ◌^◌, ◌≤◌, ◌++◌, length, take}
use Rattle.su_node.proofs.blocks.hashed.HashedBlocks.append.Given as goal

abbrev pub invariant-loop-block : goal.invariant-loop-block
invariant-loop-block l = record {
  all : l.self ++ l.block-iterator.rest.items ≡ l.fn.self ++ l.fn.added.items;
  kept : take (length l.fn.self) l.self ≡ l.fn.self;
  counted : (bits : ℕ) → length l.fn.self + length l.fn.added.items ≤ 2 ^ bits → l.hashes + (bits + 2) * length l.block-iterator.rest.items ≤ (bits + 2) * length l.fn.added.items;
}
