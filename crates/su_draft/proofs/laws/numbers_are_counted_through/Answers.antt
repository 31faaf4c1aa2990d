use Rattle.std.proofs.lemmas.Result.{IfOk-weaker}
use Rattle.su_draft.specs.Command.{draft}
use Rattle.su_draft.proofs.DraftTakes.{draft_takes}
use Rattle.su_draft.proofs.laws.numbers_are_counted_through.Goals as goal

pub returns : goal.returns
returns c = λ ro T a command. IfOk-weaker (draft ro T a command) _ _ (λ ops h. h.1) (draft_takes ro T a command)
