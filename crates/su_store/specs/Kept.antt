-- What a store keeps: a list of records, and a map of blocks from their digests.
use Rattle.std.specs.Prelude.{ℕ, Bool, List, [], ◌∷◌, ◌++◌, fold, if◌then◌else◌}
use Rattle.std.specs.List.{list_any}
use Rattle.std.specs.Str.{bytes_eq}
use Rattle.sha2.specs.Sha256.{sha256}

-- The records, each a list of bytes, are numbered from 0. Each block lies under the SHA-256 of its
-- bytes, so the map is told by the blocks alone, here in the order in which they came.
pub record Kept : Type 0 where
  pub records : List (List ℕ)
  pub blocks : List (List ℕ)

abbrev pub nothing : Kept
nothing = record { records = []; blocks = [] }

-- whether a block lies under the digest
abbrev pub lies_under : List ℕ → List ℕ → Bool
lies_under digest block = bytes_eq (sha256 block) digest

-- whether the map has a block under the digest
abbrev pub has_block : List ℕ → List (List ℕ) → Bool
has_block digest blocks = list_any (lies_under digest) blocks

-- the map with a block more; one that lies under the same digest stays
unfoldable pub with_block : List (List ℕ) → List ℕ → List (List ℕ)
with_block blocks block = if has_block (sha256 block) blocks then blocks else blocks ++ block ∷ []

-- the map with these blocks more
abbrev pub with_blocks : List (List ℕ) → List (List ℕ) → List (List ℕ)
with_blocks = fold with_block

-- one record more, at the end, and the blocks that it needs
abbrev pub with_record : Kept → List ℕ → List (List ℕ) → Kept
with_record kept bytes blocks = record {
  records = kept.records ++ bytes ∷ [];
  blocks = with_blocks kept.blocks blocks;
}
