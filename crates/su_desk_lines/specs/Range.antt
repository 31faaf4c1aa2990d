-- How the words of a command of a desk are refused.
use Rattle.std.specs.Prelude.{ℕ, Bool, not, ◌&&◌, List, ◌∷◌, Option, None, Some, cond}
use Rattle.su_bytes.specs.declared.refusals.Refusal.{Refusal}
use Rattle.su_bytes.specs.declared.refusals.Refusal.TheVariants.{NoUser}
use Rattle.su_bytes.specs.Membership.{Membership, has_user}
use Rattle.su_bytes.specs.Principal.{is_user}
use Rattle.su_desk_lines.specs.Form.{Value, value_refusal}

-- a number of a user that could be, but isn't in the roster
abbrev pub is_stranger : Membership → ℕ → Bool
is_stranger ro a = is_user a && not (has_user ro a)

-- the user of 0 to 63 whose words these are, if he isn't in the roster
abbrev pub stranger : Membership → List Value → Option ℕ
stranger ro (Value.User a ∷ values) = cond (is_stranger ro a) (Some a) None
stranger ro values = None

-- where words are refused, that their user is a stranger comes before
abbrev pub stranger_first : Option ℕ → Option Refusal → Option Refusal
stranger_first user None = None
stranger_first None (Some e) = Some e
stranger_first (Some a) (Some e) = Some (NoUser a)

-- How a command is refused for its words alone, where one is outside its range: a user of 0 to 63 who
-- isn't in the roster is NoUser; then a bad name is BadName; then any other word is BadNumber. Where
-- all words are within their ranges, it is the desk that refuses a stranger.
abbrev pub word_refusal : Membership → List Value → Option Refusal
word_refusal ro values = stranger_first (stranger ro values) (value_refusal values)
