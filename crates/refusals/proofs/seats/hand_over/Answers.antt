use denote.RattleType.{RattleType}
use denote.Param.Send.{IsSend, sendable}
use Rattle.std.proofs.Crossing.{crosses}
use Rattle.std.specs.declared.sync.ledger.Ledger as ledger
use Rattle.once_cell.proofs.race.note.Note.TheSendSync as Note
use Rattle.su_keeper.specs.declared.keepers.Keeper as keeper
use Rattle.su_shared.specs.declared.cells.BookName as name
use Rattle.su_shared.specs.contracts.notes.Receipt as Receipt
use Rattle.su_shared.proofs.Crosses.{seat_send, shared_sync}
use Rattle.refusals.proofs.seats.hand_over.Goals as goal

receipt_send : (N : RattleType) (n : name.Ghosts N.Denot) (l : ledger.Ghosts N.Denot) (K : RattleType)
    (k : keeper.Ghosts K.Denot) → IsSend N → IsSend (Receipt.the_row N K n l k)
receipt_send N n l K k s = search (Note.the_send, crosses, sendable) depth 30

pub join-read-requires-send-F : goal.join-read-requires-send-F
join-read-requires-send-F g c κs within =
    let n = c.type_bounds.send-N in
    let r = c.type_bounds.sync-R in
    search (receipt_send, seat_send, shared_sync, crosses, sendable) depth 40 fits 30000
