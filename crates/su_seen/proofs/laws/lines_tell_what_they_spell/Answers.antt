use Rattle.su_seen.proofs.Told.{told_entries}
use Rattle.su_seen.proofs.laws.lines_tell_what_they_spell.Goals as goal

pub returns : goal.returns
returns c = told_entries
