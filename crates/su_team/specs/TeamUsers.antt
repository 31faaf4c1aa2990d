-- What users in memory tell.
use Rattle.std.specs.Prelude.{ℕ, List, map}
use Rattle.su_team.specs.declared.lines.TeamUser.{TeamUser}

-- the name and the key
abbrev pub told : TeamUser → List ℕ × List ℕ
told u = (u.name.items, u.key)

abbrev pub users_of : List TeamUser → List (List ℕ × List ℕ)
users_of users = map told users
