-- What is stored under its digest.
use Rattle.std.specs.Prelude.{ℕ, Bool, ◌&&◌, List, length, nat_le, ◌≢◌}
use Rattle.sha2.specs.Sha256.{sha256}
use Rattle.su_block.specs.declared.items.TheConstants.{LONGEST_ITEM}

-- byte strings that may be stored: 1 to 70,000 bytes
abbrev pub is_item : List ℕ → Bool
is_item bytes = nat_le 1 (length bytes) && nat_le (length bytes) LONGEST_ITEM

-- of what may be given, some item has another digest
abbrev pub GivesAnother : (List ℕ → Type 0) → List ℕ → Type 0
GivesAnother MayGive digest = (item : List ℕ) × MayGive item × (sha256 item ≢ digest)
