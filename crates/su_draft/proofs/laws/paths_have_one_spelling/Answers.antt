use Rattle.su_draft.proofs.Spelling.{read_spelled, spelled_read}
use Rattle.su_draft.proofs.laws.paths_have_one_spelling.Goals as goal

pub returns : goal.returns
returns c = λ bytes names. (read_spelled bytes names, spelled_read bytes names)
