use Rattle.std.proofs.Common.{subst}
use Rattle.su_bytes.specs.declared.refusals.Refusal.{Refusal}
use Rattle.su_client_work.specs.Turn.{IsUngrantedOver}
use Rattle.su_client_work.proofs.Turns.{granted_anew, ungranted}
use Rattle.su_client_work.proofs.members.Member.take_turn.Goals as goal

pub returns-in-Ok-clause-refused : goal.returns-in-Ok-clause-refused
returns-in-Ok-clause-refused g c =
    ungranted c.await_turn-in-Ok.result _ c.args.self.now.link c.await_turn.new.self.link c.connect_anew.new.self.link c.await_turn-in-Ok.new.self.link c.await_turn.ensures.follows
    (subst (λ (e : Refusal). IsUngrantedOver c.args.self.now.link c.await_turn.new.self.link e) c.in-Err-LinkFailed.field-0-is c.in-Err-LinkFailed.ensures.refused)
    c.in-Ok.ensures.new c.await_turn-in-Ok.ensures.refused

pub returns-in-Ok-clause-granted : goal.returns-in-Ok-clause-granted
returns-in-Ok-clause-granted g c =
    granted_anew c.await_turn-in-Ok.result _ c.args.self.now.link c.await_turn.new.self.link c.connect_anew.new.self.link c.await_turn-in-Ok.new.self.link c.await_turn.ensures.follows
    (subst (λ (e : Refusal). IsUngrantedOver c.args.self.now.link c.await_turn.new.self.link e) c.in-Err-LinkFailed.field-0-is c.in-Err-LinkFailed.ensures.refused)
    c.in-Ok.ensures.new c.await_turn-in-Ok.ensures.granted
