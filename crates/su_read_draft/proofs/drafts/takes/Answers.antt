use Rattle.std.proofs.Common.{◌∙◌}
use Rattle.su_table.proofs.Public.{file_eq-derived}
use Rattle.su_read_draft.proofs.drafts.takes.Goals as goal

pub returns-in-Take : goal.returns-in-Take
returns-in-Take c = rw c.in-Take.is (c.eq.ensures ∙ file_eq-derived c.in-Take.take.file c.args.file.now)
