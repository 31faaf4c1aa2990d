use Rattle.std.proofs.Common.{rules}
use Rattle.su_change.proofs.Items.{IsOther, takes_alone}
use Rattle.su_change.proofs.decoder.read_fields.Goals as goal

pub returns-in_default : goal.returns-in_default
returns-in_default c =
    let other : IsOther c.args.number = search rules in
    takes_alone c.args.number other c.args.reader.now _ _ c.read_alone.ensures
