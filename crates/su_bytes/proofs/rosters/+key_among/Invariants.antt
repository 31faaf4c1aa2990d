use Rattle.std.proofs.Common.{length}
use Rattle.su_bytes.proofs.rosters.+key_among.Given as goal

abbrev pub decreases-key_among : goal.decreases-key_among
decreases-key_among l = length l.users.now
