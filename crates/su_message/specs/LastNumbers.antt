-- Which users have a record, and the number of the last one of each. (This project's own format.)
use Rattle.std.specs.Prelude.{◌≡◌, ◌≤◌, ◌<◌, ◌+◌, ◌^◌, ℕ, true, List, ◌∷◌, length}
use Rattle.std.specs.List.{flat_map}
use Rattle.su_bytes.specs.Principal.{is_user}
use Rattle.su_format.specs.Format.{Format, part, making, ◌>>=◌, repeated, EachFrom}
use Rattle.su_format.specs.Part.{u8_bytes, u64_bytes, u8_part, u64_part}

-- a user of at least this number, with a number of eight bytes
pub record IsLast (least : ℕ) (u : ℕ × ℕ) : Type 0 where
  pub above : least ≤ u.0
  pub user : is_user u.0 ≡ true
  pub number : u.1 < 2 ^ 64

-- users in strictly ascending order, each with a number
pub record AreLast (us : List (ℕ × ℕ)) : Type 0 where
  pub count : length us < 256
  pub ascend : EachFrom IsLast (λ u. u.0 + 1) 0 us

-- ---- their bytes

abbrev pub user_bytes : ℕ × ℕ → List ℕ
user_bytes u = u.0 ∷ u64_bytes u.1

-- how many users, and each with its number
abbrev pub users_bytes : List (ℕ × ℕ) → List ℕ
users_bytes us = length us ∷ flat_map user_bytes us

-- ---- their parts

-- a user of at least this number, and then a number
unfoldable pub user_above : ℕ → Format ℕ
user_above least = part (λ u. (least ≤ u) × (is_user u ≡ true)) u8_bytes

unfoldable pub user_number_format : ℕ → Format (ℕ × ℕ)
user_number_format least = do
  user ← user_above least
  number ← u64_part
  making (user, number)

unfoldable pub last_format : Format (List (ℕ × ℕ))
last_format = do
  count ← u8_part
  repeated user_number_format (λ u. u.0 + 1) count 0
