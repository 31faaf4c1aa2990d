use Rattle.std.proofs.Common.{take}
use Rattle.su_view.specs.Keeping.{holding_of}
use Rattle.su_view.specs.LastCommits.{AreSigned}
use Rattle.su_view.proofs.last_commits.are_signed.Given as goal

abbrev pub invariant-loop-commit : goal.invariant-loop-commit
invariant-loop-commit g l = AreSigned (holding_of l.keeping) (take l.commit-index l.shown)
