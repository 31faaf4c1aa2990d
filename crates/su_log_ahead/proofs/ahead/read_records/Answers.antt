use Rattle.std.proofs.Common.{arith}
use Rattle.su_log.specs.declared.records.Record.{Record}
use Rattle.su_log_ahead.proofs.AheadLemmas.{left_further, left_stopped, read_more}
use Rattle.su_log_ahead.proofs.ahead.read_records.Goals as goal

pub loop-alloc-preserved : goal.loop-alloc-preserved
loop-alloc-preserved g c =
    let next : Record = record c.in-Ok.next { key = c.presume-next.result } in
    record {
      room = omega (arith, c.loop-alloc.invariant.room, c.push_reserved.ensures.capacity);
      some = λ none. absurd (omega (arith, none, c.push_reserved.ensures.len));
      read = rw c.push_reserved.ensures.items (read_more c.loop-alloc.records.items next c.loop-alloc.invariant.read c.in-Ok.ensures.read);
      left = λ input is. rw c.push_reserved.ensures.items (left_further c.loop-alloc.records.items _ _ _ _ _ input next (c.loop-alloc.invariant.left input is) c.in-Ok.ensures.next);
    }

pub returns-in-Err-clause-left : goal.returns-in-Err-clause-left
returns-in-Err-clause-left g c = λ input is. left_stopped c.loop-alloc.records.items _ _ _ _ _ input c.in-Err.stop (c.loop-alloc.invariant.left input is) c.in-Err.ensures.next
