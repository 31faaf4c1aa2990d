-- How many hashes an edit of an inode makes.
use Rattle.std.specs.Prelude.{◌≡◌, ℕ, ◌+◌, ◌<◌}
use Rattle.su_node.specs.Cost.{hashes_of_write}

-- the most hashes of the path of a number, of 32 bits, in its principal's table
abbrev pub hashes_of_number : ℕ
hashes_of_number = 33

-- the most hashes of an inode that changes, besides those of its content: its own, and the path of
-- its number
abbrev pub hashes_of_inode : ℕ
hashes_of_inode = 1 + hashes_of_number

-- A write of one byte within a file, the numbers of whose blocks have so many bits, makes at most so
-- many hashes: its block, the path in the tree of the file's blocks, the inode, and 33 of the path
-- in its user's table.
abbrev pub AByteMakesFewHashes : ℕ → ℕ → Type 0
AByteMakesFewHashes bits hashes =
    (size off : ℕ) → off < size → hashes_of_write bits size off 1 + hashes_of_inode ≡ hashes
