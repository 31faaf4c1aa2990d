use Rattle.std.proofs.Common.{take}
use Rattle.su_kept_key.proofs.keys.KeptKey.of_reader.Goals as goal

-- the fault of the folder says nothing of the bytes
pub returns-in-Err-clause-refused : goal.returns-in-Err-clause-refused
returns-in-Err-clause-refused g c input known = c.folder.ensures (take 65 input)
