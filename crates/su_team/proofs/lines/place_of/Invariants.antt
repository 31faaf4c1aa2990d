use Rattle.std.proofs.Common.{◌≡◌, ◌<◌, ℕ, get_or}
use Rattle.su_team.specs.declared.lines.TeamUser.{TeamUser}
use Rattle.su_team.specs.TeamUsers.{told}
use Rattle.su_team.proofs.lines.place_of.Given as goal

abbrev pub invariant-loop-place : goal.invariant-loop-place
invariant-loop-place l = (k : ℕ) (d : TeamUser) → k < l.place → (told (get_or l.users k d)).0 ≡ l.name → ⊥
