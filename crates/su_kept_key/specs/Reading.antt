-- What is refused of a key file that is read.
use Rattle.std.specs.Prelude.{◌≡◌, ℕ, List, ⊤}
use Rattle.su_bytes.specs.declared.refusals.Refusal.TheVariants.{BadKey}
use Rattle.su_lms.specs.PrivateKey.{PrivateKey}
use Rattle.su_lms.specs.KeyFile.{key_file_bytes, IsKept}
use Rattle.su_kept_key.specs.declared.faults.KeptKeyFault.{KeptKeyFault}
use Rattle.su_kept_key.specs.declared.faults.KeptKeyFault.TheVariants.{NoKey}

-- these bytes are those of no key file: of no key that can be made, with no leaf of its tree next
abbrev pub SpellsNoKey : List ℕ → Type 0
SpellsNoKey bytes =
    (key : PrivateKey) (next : ℕ) → IsKept key next → bytes ≡ key_file_bytes key next → ⊥

-- a fault of reading these bytes: that they are no key file is said of bytes that are none alone
abbrev pub RefusesNoKey : List ℕ → KeptKeyFault → Type 0
RefusesNoKey bytes (NoKey path refusal) = (refusal ≡ BadKey) × SpellsNoKey bytes
RefusesNoKey bytes _ = ⊤
