use Rattle.std.proofs.Common.{◌≡◌, take}
use Rattle.std.specs.String.{string_bytes}
use Rattle.su_team.specs.Group.{groups_of}
use Rattle.su_team.proofs.groups.grouped.Given as goal

abbrev pub invariant-loop-place : goal.invariant-loop-place
invariant-loop-place l = string_bytes l.text ≡ groups_of (take l.place l.bytes)
