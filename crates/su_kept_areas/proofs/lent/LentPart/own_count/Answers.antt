use Rattle.std.proofs.Common.{sym}
use Rattle.su_kept_areas.proofs.MarksLemmas.{length-few}
use Rattle.su_kept_areas.proofs.lent.LentPart.own_count.Goals as goal

pub returns-then-run-lt-FEW_BLOCKS-clause-value : goal.returns-then-run-lt-FEW_BLOCKS-clause-value
returns-then-run-lt-FEW_BLOCKS-clause-value c p = rw c.in-Blocks.is (sym (length-few p c.in-Blocks.run' c.if-run-lt-FEW_BLOCKS.true))
