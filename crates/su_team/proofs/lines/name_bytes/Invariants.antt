use Rattle.std.proofs.Common.{◌≡◌, take, true}
use Rattle.std.specs.List.{list_all}
use Rattle.su_team.specs.Team.{is_name_byte}
use Rattle.su_team.proofs.lines.name_bytes.Given as goal

abbrev pub invariant-loop-place : goal.invariant-loop-place
invariant-loop-place l = list_all is_name_byte (take l.place l.bytes) ≡ true
