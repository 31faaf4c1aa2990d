use Rattle.su_seen.proofs.KeptMap.{none_kept}
use Rattle.su_seen.proofs.files.SeenFiles.new.Goals as goal

pub returns : goal.returns
returns c = none_kept c.new.result.entries c.new.ensures.empty
