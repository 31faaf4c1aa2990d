-- Users with the numbers of their last records: one spelling each.
use Rattle.std.proofs.Common.{◌≡◌, ℕ, ◌≤◌, ◌+◌, true, List}
use Rattle.su_bytes.specs.Principal.{is_user}
use Rattle.su_format.specs.Format.{IsLawful, IsFormatOf}
use Rattle.su_format.specs.Part.{u8_bytes}
use Rattle.su_format.specs.Reading.{Reading, Took}
use Rattle.su_format.proofs.Public.{Makes, known_as, last_of as last_part_of, in_order_of, counted, format_of, part_makes, part_lawful, u8_of, u64_of}
use Rattle.su_message.specs.LastNumbers.{IsLast, AreLast, user_bytes, users_bytes, user_above, user_number_format, last_format}

user_above_of : (least : ℕ) → Makes (user_above least) (λ u. u) (λ u. (least ≤ u) × (is_user u ≡ true)) u8_bytes
unfolding user_above
user_above_of least = part_makes (part_lawful (λ u. (least ≤ u) × (is_user u ≡ true)) u8_bytes (λ a b rest behind _ _ e. (cc, cc)))

user_of : (least : ℕ) → Makes (user_number_format least) (λ u. u) (IsLast least) user_bytes
unfolding user_number_format
user_of least =
    known_as (in_order_of (user_above_of least) (λ u. last_part_of u64_of (λ n. (u, n))))
    (λ u is. record { above = is.0.0; user = is.0.1; number = is.1 })
    (λ u is. ((is.above, is.user), is.number))

users_of : Makes last_format (λ us. us) AreLast users_bytes
unfolding last_format
users_of =
    known_as (counted (λ u. u.0 + 1) user_of 0 u8_of)
    (λ us is. record { count = is.0; ascend = is.1 }) (λ us is. (is.count, is.ascend))

pub last_of : IsFormatOf last_format AreLast users_bytes
last_of = format_of users_of

pub last_lawful : IsLawful last_format
last_lawful = users_of.lawful

-- what was taken is such a list
pub taken_last : (old new : Reading) (us : List (ℕ × ℕ)) → Took last_format old us new → AreLast us
taken_last old new us took = (last_of.spelled old.left us new.left took.spelled).0
