use Rattle.std.proofs.Common.{◌∙◌, sym}
use Rattle.su_history.proofs.LineLemmas.{lasts, lives, was_undone}
use Rattle.su_history.proofs.runs.fate_of.Goals as goal

pub returns-then-not-is_operation : goal.returns-then-not-is_operation
returns-then-not-is_operation c = lasts c.args.entry.now.change c.args.undoer (sym c.is_operation.ensures ∙ c.if-not-is_operation.true)

pub returns-in-Some : goal.returns-in-Some
returns-in-Some c = was_undone c.args.entry.now.change c.args.undoer c.in-Some.by (sym c.is_operation.ensures ∙ c.if-not-is_operation.false) c.in-Some.is

pub returns-in-None : goal.returns-in-None
returns-in-None c = lives c.args.entry.now.change c.args.undoer (sym c.is_operation.ensures ∙ c.if-not-is_operation.false) c.in-None.is
