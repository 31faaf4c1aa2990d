-- The text of a team: who its users are, and their public keys.
use Rattle.std.specs.Prelude.{◌≡◌, ◌≢◌, ◌≤◌, ◌<◌, ℕ, Bool, true, ◌&&◌, ◌||◌, ◌==◌, List, [], ◌∷◌, ◌++◌, length, codes, nat_le, All, AllPairs, Option, option_map, slice_get}
use Rattle.std.specs.Int.{is_in_range}
use Rattle.std.specs.List.{flat_map, list_all}
use Rattle.hex.specs.Hex.{encode_lower}
use Rattle.su_bytes.specs.declared.rosters.TheConstants.{KEY_LENGTH}

-- a letter, a digit, `-`, `_` or `.`
abbrev pub is_name_byte : ℕ → Bool
is_name_byte b =
    is_in_range 97 122 b || is_in_range 65 90 b || is_in_range 48 57 b
    || b == 45 || b == 95 || b == 46

-- 1 to 32 of these
abbrev pub is_user_name : List ℕ → Bool
is_user_name name = nat_le 1 (length name) && nat_le (length name) 32 && list_all is_name_byte name

-- 56 bytes
pub record IsKey (key : List ℕ) : Type 0 where
  pub size : length key ≡ KEY_LENGTH
  pub bytes : All (λ b. b < 256) key

-- a user is a name and a key
pub record IsUser (user : List ℕ × List ℕ) : Type 0 where
  pub name : is_user_name user.0 ≡ true
  pub key : IsKey user.1

-- users 0, 1 and so on: no more than there are numbers, and no two with the same name
pub record AreUsers (users : List (List ℕ × List ℕ)) : Type 0 where
  pub few : length users ≤ 64
  pub known : All IsUser users
  pub apart : AllPairs (λ u v. u.0 ≢ v.0) users

pub record IsTeam (users : List (List ℕ × List ℕ)) : Type 0 where
  pub some_user : 1 ≤ length users
  pub are_users : AreUsers users

abbrev pub first_line : List ℕ
first_line = codes "sundr team 1\n"

-- `NAME KEY`, with two digits in lower case for each byte of the key
abbrev pub user_line : List ℕ × List ℕ → List ℕ
user_line user = user.0 ++ 32 ∷ (encode_lower user.1 ++ 10 ∷ [])

abbrev pub user_lines : List (List ℕ × List ℕ) → List ℕ
user_lines users = flat_map user_line users

-- The text of a team.
abbrev pub team_text : List (List ℕ × List ℕ) → List ℕ
team_text users = first_line ++ user_lines users

-- the name of user n
abbrev pub name_at : List (List ℕ × List ℕ) → ℕ → Option (List ℕ)
name_at users n = option_map (λ u. u.0) (slice_get users n)
