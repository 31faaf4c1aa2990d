use Rattle.std.proofs.Common.{inr}
use Rattle.su_client_work.proofs.Public.{gives_turn_up}
use Rattle.su_client_script.proofs.steps.plan_parts.Goals as goal

pub returns-in-Err-clause-refused : goal.returns-in-Err-clause-refused
returns-in-Err-clause-refused g c =
    inr (gives_turn_up _ c.args.member.now.link c.plan.new.self.holding c.plan.new.self.link c.give_up.new.self.link c.in_ok-operations.ensures.turn c.give_up.ensures.gives_up)
