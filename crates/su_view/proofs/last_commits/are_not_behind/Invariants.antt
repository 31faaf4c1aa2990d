use Rattle.std.proofs.Common.{◌≡◌, true, take}
use Rattle.std.specs.List.{AllByRecursion}
use Rattle.su_view.specs.LastCommits.{is_by, IsNotBehind}
use Rattle.su_view.proofs.last_commits.are_not_behind.Given as goal

abbrev pub invariant-loop-commit : goal.invariant-loop-commit
invariant-loop-commit l = AllByRecursion (λ c. is_by l.user c ≡ true → IsNotBehind l.roster l.user l.last c) (take l.commit-index l.shown)
