use Rattle.std.proofs.Common.{length, refl, ap, inl, inr, arith}
use Rattle.su_log.proofs.PartLemmas.{too_short}
use Rattle.su_log.proofs.RecordLemmas.{parts_read}
use Rattle.su_log.proofs.records.Log.next_record.Goals as goal

pub returns-in-Ok-Cut-clause-next : goal.returns-in-Ok-Cut-clause-next
returns-in-Ok-Cut-clause-next g c = λ input is.
    let cut = rw c.in-Ok-Cut.field-0-is at (c.in-Ok-Cut.ensures.part input is) in inl (refl, cut.0, cut.1)

pub returns-in-Ok-End-clause-next : goal.returns-in-Ok-End-clause-next
returns-in-Ok-End-clause-next g c = λ input is. rw c.in-Ok-End.field-0-is at (c.in-Ok-End.ensures.part input is)

pub returns-in-Ok-Cut-next_part-clause-next : goal.returns-in-Ok-Cut-next_part-clause-next
returns-in-Ok-Cut-next_part-clause-next g c = λ input is.
    let first = rw c.in-Ok-Bytes.field-0-is at (c.in-Ok-Bytes.ensures.part input is) in
    let here = rw c.in-Ok-Bytes.field-0-is at c.in-Ok-Bytes.ensures.place in
    let cut = rw c.in-Ok-Cut-next_part.field-0-is at (c.in-Ok-Cut-next_part.ensures.part first.0 first.2) in
    inr (c.in-Ok-Bytes.bytes.items, first.0, first.1, here, cut.1)

pub returns-in-Ok-End-next_part-clause-next : goal.returns-in-Ok-End-next_part-clause-next
returns-in-Ok-End-next_part-clause-next g c = λ input is.
    let first = rw c.in-Ok-Bytes.field-0-is at (c.in-Ok-Bytes.ensures.part input is) in
    let here = rw c.in-Ok-Bytes.field-0-is at c.in-Ok-Bytes.ensures.place in
    let none = rw c.in-Ok-End-next_part.field-0-is at (c.in-Ok-End-next_part.ensures.part first.0 first.2) in
    inr (c.in-Ok-Bytes.bytes.items, first.0, first.1, here, too_short first.0 (let short = ap length none in omega (arith, short)))

pub returns-clause-next : goal.returns-clause-next
returns-clause-next g c = λ input is.
    let first = rw c.in-Ok-Bytes.field-0-is at (c.in-Ok-Bytes.ensures.part input is) in
    let here = rw c.in-Ok-Bytes.field-0-is at c.in-Ok-Bytes.ensures.place in
    let second = rw c.in-Ok-Bytes-next_part.field-0-is at (c.in-Ok-Bytes-next_part.ensures.part first.0 first.2) in
    let there = rw c.in-Ok-Bytes-next_part.field-0-is at c.in-Ok-Bytes-next_part.ensures.place in (
      second.0,
      record { rest = first.0; commit = first.1; item = second.1 },
      second.2,
      parts_read c.args.self.now.place c.next_part.new.self.place c.next_part-2.new.self.place c.in-Ok-Bytes.bytes.items c.in-Ok-Bytes-next_part.bytes.items here there,
    )
