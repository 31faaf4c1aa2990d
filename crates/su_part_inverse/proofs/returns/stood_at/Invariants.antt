use Rattle.std.proofs.Common.{◌≡◌, drop}
use Rattle.su_part_inverse.specs.Ready.{stood_at}
use Rattle.su_part_inverse.proofs.returns.stood_at.Given as goal

-- none before this one stood there
abbrev pub invariant-loop-kept : goal.invariant-loop-kept
invariant-loop-kept l = stood_at l.inodes l.place ≡ stood_at (drop l.kept-index l.inodes) l.place
