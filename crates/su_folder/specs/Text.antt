-- The short texts of a state folder.
use Rattle.std.specs.Prelude.{ℕ, Bool, ◌==◌, if◌then◌else◌, List, [], ◌∷◌, ◌++◌}
use Rattle.std.specs.Fmt.{decimal}
use Rattle.std.specs.List.{list_any}

abbrev pub has_colon : List ℕ → Bool
has_colon host = list_any (λ b. b == 58) host

-- `HOST:PORT`, or `[HOST]:PORT` where the host has a colon
abbrev pub server_text : List ℕ → ℕ → List ℕ
server_text host port =
    if has_colon host
    then 91 ∷ (host ++ 93 ∷ 58 ∷ decimal port)
    else host ++ 58 ∷ decimal port

-- a user's name and the path of the key file, each with a line feed behind it
abbrev pub me_text : List ℕ → List ℕ → List ℕ
me_text name key = name ++ 10 ∷ (key ++ 10 ∷ [])
