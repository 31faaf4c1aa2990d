use Rattle.std.proofs.Common.{take}
use Rattle.su_kept_key.proofs.files.read_key.Goals as goal

-- the fault of reading says nothing of the bytes
pub returns-in-Err-clause-refused : goal.returns-in-Err-clause-refused
returns-in-Err-clause-refused g c input known = c.unread.ensures (take 65 input)
