use Rattle.std.proofs.Common.{sym, ◌∙◌}
use Rattle.su_kept_areas.proofs.MarksLemmas.{few_mark}
use Rattle.su_kept_areas.proofs.lent.LentPart.own_mark.Goals as goal

pub returns-then-run-lt-FEW_BLOCKS : goal.returns-then-run-lt-FEW_BLOCKS
returns-then-run-lt-FEW_BLOCKS c =
    let within = rw c.in-Blocks.is at c.requires in
    rw c.in-Blocks.is (c.block_mark.ensures ∙ sym (few_mark c.args.place.now c.in-Blocks.run' c.args.index c.if-run-lt-FEW_BLOCKS.true within))
