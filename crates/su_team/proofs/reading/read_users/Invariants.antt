use Rattle.std.proofs.Common.{◌≡◌, ◌++◌, length}
use Rattle.su_team.specs.Team.{AreUsers, user_lines}
use Rattle.su_team.specs.TeamUsers.{users_of}
use Rattle.su_team.proofs.reading.read_users.Given as goal

-- the users of the lines that were read, and the bytes behind them
abbrev pub invariant-loop-left : goal.invariant-loop-left
invariant-loop-left l =
    AreUsers (users_of l.users.items) × (l.lines ≡ user_lines (users_of l.users.items) ++ l.left)

abbrev pub decreases-loop-left : goal.decreases-loop-left
decreases-loop-left l = length l.left
