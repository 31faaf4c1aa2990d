use Rattle.std.specs.Prelude.{option_map}
use Rattle.std.proofs.Common.{ap}
use Rattle.su_spelling.specs.Read.{rooted}
use Rattle.su_spelling.proofs.ShownLaws.{read-shown}
use Rattle.su_spelling.proofs.laws.shown_paths_are_read_back.Goals as goal

pub returns : goal.returns
returns c path bytes = ap (option_map rooted) (read-shown path bytes)
