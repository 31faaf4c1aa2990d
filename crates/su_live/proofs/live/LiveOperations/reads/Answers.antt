use Rattle.std.proofs.Common.{◌∙◌, sym}
use Rattle.su_live.proofs.LiveLemmas.{ascend_in}
use Rattle.su_live.proofs.BlockerLemmas.{none_reads, reads-found}
use Rattle.su_live.proofs.live.LiveOperations.reads.Goals as goal

pub returns-in-Some : goal.returns-in-Some
returns-in-Some g c =
    let ks = c.args.self.now in
    let w = c.args.written.now.writes.items in
    c.reads_what_is_written_by.ensures
    ∙ sym (reads-found w c.args.number c.in-Some.operation.now ks (ascend_in _ _ _ _ c.self.invariant c.self.view_is) (sym c.in-Some.ensures))

pub returns-in-None : goal.returns-in-None
returns-in-None g c =
    let ks = c.args.self.now in
    let w = c.args.written.now.writes.items in
    sym (none_reads w c.args.number ks (sym c.in-None.ensures))
