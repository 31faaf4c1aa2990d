-- The chains of LM-OTS, the one-time signatures of RFC 8554, Section 4.
use Rattle.std.specs.Prelude.{ℕ, zero, suc, ◌≡◌, ◌+◌, ◌<◌, List, [], ◌∷◌, ◌++◌, length, slice_index}
use Rattle.std.specs.Int.{w16, w32, to_be_bytes}
use Rattle.sha2.specs.Sha256.{sha256}

-- where in the key a chain stands: I || u32str(q) || u16str(i), of chain i of leaf q (Section 4.3)
abbrev pub chain_place : List ℕ → ℕ → ℕ → List ℕ
chain_place id q i = id ++ to_be_bytes w32 q ++ to_be_bytes w16 i

-- step j of a chain (Section 4.3)
abbrev pub chain_step : List ℕ → ℕ → List ℕ → List ℕ
chain_step place j value = sha256 (place ++ j ∷ [] ++ value)

-- the step applied a number of times: steps `from`, `from` + 1, and so on (Sections 4.3, 4.5 and 4.6)
unfoldable pub chain : List ℕ → ℕ → ℕ → List ℕ → List ℕ
chain place from zero value = value
chain place from (suc count) value = chain_step place (from + count) (chain place from count value)

-- a string of n bytes
abbrev pub AreBytes : ℕ → List ℕ → Type 0
AreBytes n string = (length string ≡ n) × ((k : ℕ) → slice_index string k < 256)
