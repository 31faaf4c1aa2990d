use Rattle.std.proofs.Common.{ap, Ok}
use Rattle.su_scratch.proofs.PageReading.{note_parts, digest_told, first_told, note_told, no_digest, no_u64, no_u32}
use Rattle.su_scratch.proofs.pages.take_note.Goals as goal

pub returns-in_default-clause-told : goal.returns-in_default-clause-told
returns-in_default-clause-told c n rest is e =
    absurd (no_digest c.args.reader.now c.take_digest.new.self _ c.in_default.ensures.takes c.in_default.ensures.refused n.digest _ is.digest (note_parts n _ rest e))

pub returns-in_default-take_u64-clause-told : goal.returns-in_default-take_u64-clause-told
returns-in_default-take_u64-clause-told c n rest is e =
    absurd (no_u64 c.take_digest.new.self c.take_u64.new.self _ c.in_default-take_u64.ensures.takes c.in_default-take_u64.ensures.refused n.place.first _ is.first
    (digest_told c.args.reader.now c.take_digest.new.self _ c.in-Ok.ensures.takes n rest is e).1)

pub returns-in_default-take_u32-clause-told : goal.returns-in_default-take_u32-clause-told
returns-in_default-take_u32-clause-told c n rest is e =
    absurd (no_u32 c.take_u64.new.self c.take_u32.new.self _ c.in_default-take_u32.ensures.takes c.in_default-take_u32.ensures.refused n.place.count _ is.count
    (first_told c.args.reader.now c.take_digest.new.self c.take_u64.new.self _ _ c.in-Ok.ensures.takes c.in-Ok-take_u64.ensures.takes n rest is e).1)

pub returns-clause-told : goal.returns-clause-told
returns-clause-told c n rest is e =
    let told = note_told c.args.reader.now c.take_digest.new.self c.take_u64.new.self c.take_u32.new.self _ _ _ c.in-Ok.ensures.takes c.in-Ok-take_u64.ensures.takes c.in-Ok-take_u32.ensures.takes n rest is e in
    (ap Ok told.0, told.1)
