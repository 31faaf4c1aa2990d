use Rattle.std.proofs.Common.{rules}
use Rattle.su_change.proofs.OutlineLemmas.{takes_too}
use Rattle.su_change.proofs.outlines.read_fields.Goals as goal

pub returns-in_default : goal.returns-in_default
returns-in_default c = takes_too c.args.number (search rules) c.args.reader.now _ _ c.read_fields.ensures
