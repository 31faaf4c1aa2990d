use Rattle.std.proofs.Common.{ap, Ok, arith}
use Rattle.su_scratch.proofs.PageReading.{no_flag, no_place, older_told}
use Rattle.su_scratch.proofs.pages.take_older.Goals as goal

pub returns-in_default-clause-told : goal.returns-in_default-clause-told
returns-in_default-clause-told c = λ older rest fits e.
    absurd (no_flag c.args.reader.now c.take_u8.new.self _ c.in_default.ensures.takes c.in_default.ensures.refused older rest e)

pub returns-in_default-take_u64-clause-told : goal.returns-in_default-take_u64-clause-told
returns-in_default-take_u64-clause-told c = λ older rest fits e.
    absurd (no_place c.args.reader.now c.take_u8.new.self c.take_u64.new.self _ _ c.in-Ok.ensures.takes c.in_default-take_u64.ensures.takes c.in_default-take_u64.ensures.refused older rest fits e)

pub returns-in-0-clause-told : goal.returns-in-0-clause-told
returns-in-0-clause-told c = λ older rest fits e.
    let told = older_told c.args.reader.now c.take_u8.new.self c.take_u64.new.self _ _ c.in-Ok.ensures.takes c.in-Ok-take_u64.ensures.takes older rest fits e in
    (ap Ok (told.none c.in-0.is), told.left_is)

pub returns-in-1-clause-told : goal.returns-in-1-clause-told
returns-in-1-clause-told c = λ older rest fits e.
    let told = older_told c.args.reader.now c.take_u8.new.self c.take_u64.new.self _ _ c.in-Ok.ensures.takes c.in-Ok-take_u64.ensures.takes older rest fits e in
    (ap Ok (told.some c.in-1.is), told.left_is)

pub returns-in_default-has_one-clause-told : goal.returns-in_default-has_one-clause-told
returns-in_default-has_one-clause-told c = λ older rest fits e.
    let told = older_told c.args.reader.now c.take_u8.new.self c.take_u64.new.self _ _ c.in-Ok.ensures.takes c.in-Ok-take_u64.ensures.takes older rest fits e in
    absurd (told.one (λ z. omega arith) (λ z. omega arith))
