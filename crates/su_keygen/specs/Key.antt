-- What a key maker hands out.
use Rattle.std.specs.Prelude.{◌≡◌, ℕ, List}
use Rattle.su_lms.specs.declared.parameters.Params.{Params}
use Rattle.su_lms.specs.PrivateKey.{key_of}
use Rattle.su_lms.specs.KeyFile.{made_key}

-- the public key of a key of that kind (RFC 8554, Section 5.3)
abbrev pub IsKeyOf : Params → List ℕ → Type 0
IsKeyOf params public =
    (id : List ℕ) × (seed : List ℕ) × (public ≡ key_of (made_key params id seed))
