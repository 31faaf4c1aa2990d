-- A digest as people compare it by voice.
use Rattle.std.specs.Prelude.{◌≡◌, ◌<◌, ℕ, ◌+◌, ◌%◌, ◌==◌, ◌&&◌, not, if◌then◌else◌, List, [], ◌∷◌, ◌++◌, length, All}
use Rattle.hex.specs.Hex.{encode_lower}

-- 32 bytes
pub record IsDigest (digest : List ℕ) : Type 0 where
  pub size : length digest ≡ 32
  pub bytes : All (λ b. b < 256) digest

-- a space before each fourth byte, but the first
abbrev pub blank_before : ℕ → List ℕ
blank_before place = if not (place == 0) && place % 4 == 0 then 32 ∷ [] else []

-- the byte at a place: two digits in lower case, behind the space
abbrev pub byte_shown : ℕ → ℕ → List ℕ
byte_shown place b = blank_before place ++ encode_lower (b ∷ [])

-- bytes, of which the first stands at a place
abbrev pub groups_from : ℕ → List ℕ → List ℕ
groups_from place [] = []
groups_from place (b ∷ bytes) = byte_shown place b ++ groups_from (place + 1) bytes

-- Eight groups of eight digits, for the 32 bytes of a digest.
abbrev pub groups_of : List ℕ → List ℕ
groups_of digest = groups_from 0 digest
