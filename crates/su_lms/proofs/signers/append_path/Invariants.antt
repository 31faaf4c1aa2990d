-- The siblings below this level stand behind what was there.
use Rattle.std.proofs.Common.{◌≡◌, ◌≤◌, ◌+◌, ◌*◌, ◌++◌, vec_len, vec_capacity}
use Rattle.su_lms.specs.Strings.{joined}
use Rattle.su_lms.specs.PrivateKey.{path_at}
use Rattle.su_lms.specs.KeyFile.{private_key_of}
use Rattle.su_lms.proofs.signers.append_path.Given as goal

abbrev pub invariant-loop-level : goal.invariant-loop-level
invariant-loop-level l = record {
  items : l.out.items ≡ l.fn.out.items ++ joined l.level (path_at (private_key_of l.file) l.q);
  len : vec_len l.out ≡ vec_len l.fn.out + 32 * l.level;
  room : vec_capacity l.fn.out ≤ vec_capacity l.out;
}
