use Rattle.std.proofs.Common.{sym, subst}
use Rattle.su_view.specs.Holding.{HoldingState}
use Rattle.su_person.specs.Putting.{IsStanding}
use Rattle.su_person.proofs.PutLemmas.{asks_itself, puts_one}
use Rattle.su_person.proofs.putting.commands_if_lacking.Goals as goal

pub returns-then-is_too_big-clause-asks : goal.returns-then-is_too_big-clause-asks
returns-then-is_too_big-clause-asks g c = asks_itself c.args.member.now

pub returns-clause-puts : goal.returns-clause-puts
returns-clause-puts g c = λ clear.
    let there = subst (λ (v : HoldingState). IsStanding v c.args.new.now.path.now c.in_ok-standing.standing) (sym c.standing_at.ensures.asks.holding) (c.in_ok-standing.ensures.standing clear) in
    puts_one c.commands_for.result c.args.member.now.holding c.standing_at.new.member.holding c.args.new.now c.standing_at.ensures.asks.holding
    (c.commands_for.ensures.may there) (c.commands_for.ensures.puts there)
