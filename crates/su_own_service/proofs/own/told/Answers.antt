use Rattle.std.proofs.Common.{◌<◌, ◌^◌, subst, sym, arith}
use Rattle.su_book.specs.declared.events.BookReply.TheVariants.{Granted}
use Rattle.su_message.specs.LastNumbers.{AreLast}
use Rattle.su_book.specs.Machine.{TellsRecords}
use Rattle.su_own_service.proofs.LastLemmas.{are_last}
use Rattle.su_own_service.proofs.own.told.Goals as goal

pub new-requires : goal.new-requires
new-requires c =
    let told : TellsRecords (Granted c.in-Granted.count c.in-Granted.last) = subst TellsRecords c.in-Granted.is c.requires in
    let few : c.in-Granted.count < 2 ^ 64 = search in
    subst AreLast (sym told.2) (are_last told.0 (omega (arith, few, told.1)))
