use Rattle.su_part.proofs.FreshLemmas.{CopiedSoFar}
use Rattle.su_part.proofs.users.UserPart.copy.Given as goal

abbrev pub invariant-loop-number : goal.invariant-loop-number
invariant-loop-number l = CopiedSoFar l.self.inodes.entries l.number-iterator l.inodes.entries
