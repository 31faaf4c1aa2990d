use Rattle.std.proofs.Common.{◌≡◌, ◌++◌, take, length}
use Rattle.su_team.specs.Group.{groups_of}
use Rattle.su_team.proofs.groups.read_groups.Given as goal

-- the bytes that were read, and what is left of the text
abbrev pub invariant-loop-place : goal.invariant-loop-place
invariant-loop-place l = (length l.bytes ≡ 32) × (l.text ≡ groups_of (take l.place l.bytes) ++ l.left)
