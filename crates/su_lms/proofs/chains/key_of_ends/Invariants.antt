-- The hasher holds the ends of the chains so far.
use Rattle.std.proofs.Common.{◌++◌}
use Rattle.sha2.specs.Hashers.{Holds256}
use Rattle.sha_lanes.specs.Run.{run_at}
use Rattle.su_lms.specs.Strings.{u16str, u32str, joined}
use Rattle.su_lms.proofs.chains.key_of_ends.Given as goal

abbrev pub invariant-loop-end : goal.invariant-loop-end
invariant-loop-end l = Holds256 l.hasher (l.id ++ u32str l.q ++ u16str 0x8080 ++ joined l.end-index (λ i. (run_at l.ends i).value))
