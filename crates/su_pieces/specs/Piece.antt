-- The pieces of a file's new contents that are written over the old ones.
use Rattle.std.specs.Prelude.{◌≡◌, ℕ, ◌+◌, ◌*◌, ◌%◌, ◌<◌, ◌≤◌, Bool, true, false, not, ◌⊎◌, List, [], ◌∷◌, length, nat_eq, nat_lt, if◌then◌else◌}
use Rattle.std.specs.Cmp.Lexicographic.{pointwise}
use Rattle.std.specs.List.{All, AllPairs, Any}
use Rattle.su_node.specs.declared.blocks.TheConstants.{BLOCK_SIZE}
use Rattle.su_node.specs.Field.{block}
use Rattle.su_node.specs.Inode.{within}
use Rattle.su_node.specs.InodeChange.{with_size, with_bytes_at}
use Rattle.su_pieces.specs.declared.blocks.TheConstants.{MOST_BLOCKS}
use Rattle.su_pieces.specs.declared.pieces.Piece.{Piece}

-- ---- which blocks differ

-- Block n of the new contents isn't what stands in its place in the old ones, which are other bytes
-- or fewer.
unfoldable pub differs : List ℕ → List ℕ → ℕ → Bool
differs old new n =
    not (pointwise nat_eq (within (BLOCK_SIZE * n) (length (block n new)) old) (block n new))

-- the block begins in the piece
abbrev pub HasBlock : ℕ → Piece → Type 0
HasBlock n p = (p.off ≤ BLOCK_SIZE * n) × (BLOCK_SIZE * n < p.off + p.len)

-- the byte lies in the piece
abbrev pub HasByte : ℕ → Piece → Type 0
HasByte i p = (p.off ≤ i) × (i < p.off + p.len)

-- ---- which pieces there are

-- bytes of one piece
abbrev pub largest_piece : ℕ
largest_piece = BLOCK_SIZE * MOST_BLOCKS

-- A run of whole blocks of the new contents, of which the last one may be short: all of them
-- differ, and the one behind them does only where they have as many bytes as a piece can have.
pub record IsPiece (old new : List ℕ) (p : Piece) : Type 0 where
  pub some : 1 ≤ p.len
  pub most : p.len ≤ largest_piece
  pub inside : p.off + p.len ≤ length new
  pub begins : p.off % BLOCK_SIZE ≡ 0
  pub ends : ((p.off + p.len) % BLOCK_SIZE ≡ 0) ⊎ (p.off + p.len ≡ length new)
  pub differ : (n : ℕ) → HasBlock n p → differs old new n ≡ true
  pub longest : (p.len ≡ largest_piece)
      ⊎ ((n : ℕ) → p.off + p.len ≡ BLOCK_SIZE * n → differs old new n ≡ false)

-- The pieces of new contents that are written over old ones: they ascend, none overlaps another,
-- and each block that differs is in one.
pub record ArePieces (old new : List ℕ) (ps : List Piece) : Type 0 where
  pub each : All (IsPiece old new) ps
  pub ascend : AllPairs (λ p q. p.off + p.len ≤ q.off) ps
  pub all : (n : ℕ) → differs old new n ≡ true → Any (HasBlock n) ps

-- ---- what they make

-- a file after writes of these pieces of the new contents, one after another
abbrev pub with_pieces : List ℕ → List Piece → List ℕ → List ℕ
with_pieces new [] bs = bs
with_pieces new (p ∷ ps) bs =
    with_pieces new ps (with_bytes_at p.off (within p.off p.len new) bs)

-- the old contents after these writes, and cut to the size of the new ones where they are longer
abbrev pub put_over : List ℕ → List ℕ → List Piece → List ℕ
put_over old new ps =
    if nat_lt (length new) (length old) then with_size (length new) (with_pieces new ps old)
    else with_pieces new ps old
