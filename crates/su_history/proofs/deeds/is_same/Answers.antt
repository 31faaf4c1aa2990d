use Rattle.std.proofs.Common.{◌∙◌}
use Rattle.su_table.proofs.Public.{file_eq-derived}
use Rattle.su_history.proofs.deeds.is_same.Goals as goal

pub returns : goal.returns
returns c = c.eq.ensures ∙ file_eq-derived c.args.file c.args.other
