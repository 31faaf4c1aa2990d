-- The names of the files in which a client keeps the next keys that it makes.
use Rattle.std.specs.Prelude.{ℕ, List, ◌∷◌, ◌++◌}
use Rattle.hex.specs.Hex.{encode_lower}

-- what a user chose, `-`, and I in hex digits, by which keys are told apart (RFC 8554, Section 5.3)
abbrev pub next_key_name : List ℕ → List ℕ → List ℕ
next_key_name prefix id = prefix ++ (45 ∷ encode_lower id)
