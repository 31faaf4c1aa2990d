use Rattle.std.proofs.lemmas.Result.{IfOk-weaker}
use Rattle.su_draft.specs.Command.{draft}
use Rattle.su_draft.proofs.DraftTakes.{draft_takes}
use Rattle.su_draft.proofs.laws.files_are_taken_once.Goals as goal

pub returns : goal.returns
returns c = λ ro T a command. IfOk-weaker (draft ro T a command) _ _ (λ ops h. h.0) (draft_takes ro T a command)
