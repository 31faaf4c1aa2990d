use Rattle.std.proofs.Common.{ap}
use Rattle.std.specs.Prelude.{Err}
use Rattle.su_format.proofs.Parts.{name_none, name_taken, name_cut, name_bad}
use Rattle.su_format.proofs.readers.Reader.take_name.Goals as goal

pub returns-in_default-clause-takes : goal.returns-in_default-clause-takes
returns-in_default-clause-takes c =
    name_none c.args.self.now c.take_u8.new.self c.in_default.field-0 _ (rw c.ahead-ahead.ensures at c.in_default.ensures.refused) c.malformed-malformed.ensures
    (rw c.ahead-ahead.ensures at c.in_default.ensures.takes)

pub returns-in_default-take_bytes-clause-takes : goal.returns-in_default-take_bytes-clause-takes
returns-in_default-take_bytes-clause-takes c =
    let refused = rw c.from.ensures at c.in_default-take_bytes.ensures.refused in
    name_cut c.args.self.now c.take_u8.new.self c.in-Ok.count _ c.malformed-malformed.ensures (rw c.ahead-ahead.ensures at c.in-Ok.ensures.takes)
    c.in_default-take_bytes.field-0 c.take_bytes.new.self refused.1 refused.0

pub returns-in-Ok-new-clause-takes : goal.returns-in-Ok-new-clause-takes
returns-in-Ok-new-clause-takes c =
    rw c.in-Ok-new.ensures.value
    (name_taken c.args.self.now c.take_u8.new.self c.take_bytes.new.self c.in-Ok.count c.in-Ok-take_bytes.bytes.now (rw c.ahead-ahead.ensures at c.in-Ok.ensures.takes)
    (rw c.from.ensures at c.in-Ok-take_bytes.ensures.found) c.in-Ok-new.ensures.accepted)

pub returns-in-Err-BadName-clause-takes : goal.returns-in-Err-BadName-clause-takes
returns-in-Err-BadName-clause-takes c =
    name_bad c.args.self.now c.take_u8.new.self c.take_bytes.new.self c.in-Ok.count c.in-Ok-take_bytes.bytes.now _ c.malformed-malformed.ensures
    (rw c.ahead-ahead.ensures at c.in-Ok.ensures.takes) (rw c.from.ensures at c.in-Ok-take_bytes.ensures.found)
    (c.in-Err-BadName.ensures.bad.0 (ap Err c.in-Err-BadName.field-0-is))
