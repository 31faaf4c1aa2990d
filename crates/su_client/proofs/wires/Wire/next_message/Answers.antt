use Rattle.std.proofs.Common.{◌∙◌, ap, subst}
use Rattle.su_client.specs.Link.{LinkState}
use Rattle.su_client.specs.Asking.{Joins, Reads}
use Rattle.su_client.proofs.Joining.{joins_trans, reads_after, nothing_taken}
use Rattle.su_client.proofs.wires.Wire.next_message.Goals as goal

pub loop-preserved : goal.loop-preserved
loop-preserved g c = joins_trans _ c.loop.self _ c.loop.invariant
    (subst (λ (a : LinkState). Joins a c.refill.new.self) (ap (λ w. record { known = g.R.Read.remaining c.self.inside.reader; held = g.W.Write.contents c.self.inside.writer; waits = w; failed = c.self.inside.failed }) (nothing_taken c.self.inside.frames c.next.new.self c.in-Ok-None.field-0 c.in-Ok-None.field-0-is c.in-Ok-None.ensures) ∙ c.self.view_is) c.if-not-refill.ensures)

pub returns-then-not-refill : goal.returns-then-not-refill
returns-then-not-refill g c = reads_after _ c.loop.self _ c.loop.invariant
    (subst (λ (a : LinkState). Reads a c.refill.new.self) (ap (λ w. record { known = g.R.Read.remaining c.self.inside.reader; held = g.W.Write.contents c.self.inside.writer; waits = w; failed = c.self.inside.failed }) (nothing_taken c.self.inside.frames c.next.new.self c.in-Ok-None.field-0 c.in-Ok-None.field-0-is c.in-Ok-None.ensures) ∙ c.self.view_is) c.if-not-refill.ensures)
