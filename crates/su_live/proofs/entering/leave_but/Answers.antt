use Rattle.std.proofs.Common.{false, sym, ◌∙◌}
use Rattle.su_kept_areas.specs.Marks.{read_marks}
use Rattle.su_live.proofs.ReadersLemmas.{one_kept, one_went_but, puts_by}
use Rattle.su_live.proofs.entering.leave_but.Goals as goal

pub loop-mark-preserved-then-not-has_mark : goal.loop-mark-preserved-then-not-has_mark
loop-mark-preserved-then-not-has_mark c =
    one_went_but c.args.number (read_marks c.args.footprint.now.reads.items) c.args.other.now c.args.readers.now c.loop-mark.readers c.remove.new.self c.loop-mark.marks c.in-Some.mark c.pass.new.self
    c.loop-mark.invariant c.in-Some.ensures.some (sym c.has_mark.ensures ∙ c.if-not-has_mark.true)
    (puts_by c.loop-mark.readers c.remove.new.self c.in-Some.mark c.args.number false (λ r. c.remove.ensures.updates.0 r))

pub loop-mark-preserved : goal.loop-mark-preserved
loop-mark-preserved c =
    one_kept c.args.number (read_marks c.args.footprint.now.reads.items) c.args.other.now c.args.readers.now c.loop-mark.readers c.loop-mark.marks c.in-Some.mark c.pass.new.self
    c.loop-mark.invariant c.in-Some.ensures.some (sym c.has_mark.ensures ∙ c.if-not-has_mark.false)
