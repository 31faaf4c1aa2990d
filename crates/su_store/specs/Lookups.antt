-- What a look-up gives, whatever the tables stand for.
use Rattle.std.specs.Prelude.{◌≡◌, ℕ, Bool, false, List, ◌∷◌, [], Contains}
use Rattle.std.specs.Prelude.{Option, Some, None, slice_get}
use Rattle.sha2.specs.Sha256.{sha256}
use Rattle.sqlite.specs.Tree.{Trees}
use Rattle.sqlite.specs.Order.{Row, column}
use Rattle.sqlite.specs.declared.types.Value.TheVariants.{Blob}
use Rattle.su_store.specs.Kept.{Kept, has_block}
use Rattle.su_store.specs.Tables.{Stands}

-- the record of a number, if there is one
abbrev pub IsRecord : ℕ → Option (List ℕ) → Trees → Type 0
IsRecord number found db = (kept : Kept) → Stands kept db → found ≡ slice_get kept.records number

-- one of the blocks, with this digest; or none has it
abbrev pub IsBlockAmong : List (List ℕ) → List ℕ → Option (List ℕ) → Type 0
IsBlockAmong blocks digest None = has_block digest blocks ≡ false
IsBlockAmong blocks digest (Some block) = Contains blocks block × (sha256 block ≡ digest)

-- the block of a digest, if there is one
abbrev pub IsBlock : List ℕ → Option (List ℕ) → Trees → Type 0
IsBlock digest found db = (kept : Kept) → Stands kept db → IsBlockAmong kept.blocks digest found

-- whether a block of the digest is kept
abbrev pub TellsHeld : List ℕ → Bool → Trees → Type 0
TellsHeld digest held db = (kept : Kept) → Stands kept db → held ≡ has_block digest kept.blocks

-- the bytes of the first row, or there is no row
abbrev pub IsFirst : Option (List ℕ) → List Row → Type 0
IsFirst None rows = rows ≡ []
IsFirst (Some bytes) rows =
    (first : Row) × (others : List Row) × (rows ≡ first ∷ others) × (column first 0 ≡ Blob bytes)
