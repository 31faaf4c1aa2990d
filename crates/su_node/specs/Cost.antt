-- How many hashes a write into a file makes.
use Rattle.std.specs.Prelude.{ℕ, ◌+◌, ◌-◌, ◌*◌, ◌/◌, ◌^◌, ◌≤◌, cond, nat_lt}
use Rattle.su_node.specs.declared.blocks.TheConstants.{BLOCK_SIZE}
use Rattle.su_node.specs.Digest.{block_count}

-- a file of that size has no more blocks than there are numbers of so many bits
abbrev pub IsSmall : ℕ → ℕ → Type 0
IsSmall bits size = size ≤ 2 ^ bits * BLOCK_SIZE

-- Where the numbers of a file's blocks have so many bits, a block that changes costs at most two
-- hashes more than that: its own, and the path of its number in the tree of the blocks, which is one
-- for each bit and one more.
abbrev pub hashes_of_blocks : ℕ → ℕ → ℕ
hashes_of_blocks bits changed = (bits + 2) * changed

-- how many blocks so many bytes touch from an offset on
abbrev pub blocks_touched : ℕ → ℕ → ℕ
blocks_touched off len = block_count (off + len) - off / BLOCK_SIZE

-- how many blocks come or change when a file grows: those that are new, and the one that was the
-- last
abbrev pub blocks_grown : ℕ → ℕ → ℕ
blocks_grown size new_size = block_count new_size - block_count size + 1

-- The most hashes of a write into a file of that size, the numbers of whose blocks have so many
-- bits: within the file those of each block that the bytes touch, and where the file grows also those
-- of each block of the growth.
abbrev pub hashes_of_write : ℕ → ℕ → ℕ → ℕ → ℕ
hashes_of_write bits size off len =
    let growth = cond (nat_lt size (off + len)) (blocks_grown size (off + len)) 0 in
    hashes_of_blocks bits (growth + blocks_touched off len)
