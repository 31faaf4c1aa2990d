use Rattle.std.proofs.Common.{true}
use Rattle.su_kept_areas.specs.Marks.{read_marks}
use Rattle.su_live.proofs.ReadersLemmas.{one_came, puts_by}
use Rattle.su_live.proofs.entering.enter.Goals as goal

pub loop-mark-preserved : goal.loop-mark-preserved
loop-mark-preserved c =
    one_came c.args.number (read_marks c.args.footprint.now.reads.items) c.args.readers.now c.loop-mark.readers c.insert.new.self c.loop-mark.marks c.in-Some.mark c.pass.new.self
    c.loop-mark.invariant c.in-Some.ensures.some (puts_by c.loop-mark.readers c.insert.new.self c.in-Some.mark c.args.number true (λ r. c.in-Ok.ensures.updates.0 r))
