use Rattle.std.proofs.Common.{sym}
use Rattle.su_stored_desk.proofs.Replies.{last_number, no_number}
use Rattle.su_stored_desk.proofs.desks.Desk.last.Goals as goal

pub returns-in-Some : goal.returns-in-Some
returns-in-Some g c right =
    last_number _ _ _ _ _ right.keeps (sym c.in-Some.ensures)

pub returns-in-None : goal.returns-in-None
returns-in-None g c right =
    no_number _ _ _ _ right.keeps (sym c.in-None.ensures)
