-- What a key maker prints, and why a client doesn't take a key file.
use Rattle.std.specs.Prelude.{◌≡◌, ◌⊎◌, ℕ, List, [], ◌∷◌, ◌++◌}
use Rattle.hex.specs.Hex.{encode_lower}
use Rattle.su_bytes.specs.declared.refusals.Refusal.{Refusal}
use Rattle.su_bytes.specs.declared.refusals.Refusal.TheVariants.{BadKey, KeyFileFault, NoMemory}
use Rattle.su_keygen.specs.Key.{IsKeyOf}
use Rattle.su_lms.specs.declared.parameters.Params.{Params}

-- a public key in hex digits, and the end of the line
abbrev pub IsPublicLine : Params → List ℕ → Type 0
IsPublicLine params text =
    (public : List ℕ) × IsKeyOf params public × (text ≡ encode_lower public ++ 10 ∷ [])

-- a key file can't be read or is in use, is none, or memory is short
abbrev pub IsOfKeyFile : Refusal → Type 0
IsOfKeyFile e = (e ≡ KeyFileFault) ⊎ (e ≡ BadKey) ⊎ (e ≡ NoMemory)
