-- The values of the chains so far stand behind what was there.
use Rattle.std.proofs.Common.{◌≡◌, ◌≤◌, ◌+◌, ◌*◌, ◌++◌, vec_len, vec_capacity}
use Rattle.sha_lanes.specs.Run.{run_at}
use Rattle.su_lms.specs.Strings.{joined}
use Rattle.su_lms.proofs.signers.append_ends.Given as goal

abbrev pub invariant-loop-end : goal.invariant-loop-end
invariant-loop-end l = record {
  items : l.out.items ≡ l.initial.out.items ++ joined l.end-index (λ i. (run_at l.ends i).value);
  len : vec_len l.out ≡ vec_len l.initial.out + 32 * l.end-index;
  room : vec_capacity l.initial.out ≤ vec_capacity l.out;
}
