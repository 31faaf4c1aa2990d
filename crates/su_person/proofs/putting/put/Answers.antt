use Rattle.std.proofs.Common.{List, [], zero, refl, sym, subst, append-nil, ◌∙◌}
use Rattle.su_client_work.specs.Member.{MemberState}
use Rattle.su_client_work.specs.Work.{Works}
use Rattle.su_client_work.proofs.Public.{works_asks, works_same, works_then}
use Rattle.su_draft.specs.declared.commands.Command.{Command}
use Rattle.su_view.specs.Holding.{HoldingState}
use Rattle.su_person.specs.Putting.{IsStanding, PutsOver}
use Rattle.su_person.proofs.StepLemmas.{on_ok}
use Rattle.su_person.proofs.PutLemmas.{asks_itself, round_more, rounds_still, there_of}
use Rattle.su_person.proofs.putting.put.Goals as goal

pub returns-then-is_too_big-clause-works : goal.returns-then-is_too_big-clause-works
returns-then-is_too_big-clause-works g c = works_same c.args.member.now c.args.member.now refl

pub returns-then-is_too_big-clause-rounds : goal.returns-then-is_too_big-clause-rounds
returns-then-is_too_big-clause-rounds g c = ([], sym (append-nil c.args.numbers.now.items), (zero, c.args.member.now, (refl, refl), asks_itself c.args.member.now))

pub loop-init : goal.loop-init
loop-init g c = record {
  works = works_same c.args.member.now c.args.member.now refl;
  rounds = ([], sym (append-nil c.args.numbers.now.items), (zero, c.args.member.now, (refl, refl), asks_itself c.args.member.now));
}

pub returns-in_err-standing-clause-works : goal.returns-in_err-standing-clause-works
returns-in_err-standing-clause-works g c =
    works_then c.args.member.now c.loop.member c.standing_at.new.member c.loop.invariant.works (works_asks c.loop.member c.standing_at.new.member c.standing_at.ensures.asks)

pub returns-in_err-standing-clause-rounds : goal.returns-in_err-standing-clause-rounds
returns-in_err-standing-clause-rounds g c =
    rounds_still c.args.new.now.seen c.args.new.now.over c.args.new.now.path.now c.args.new.now.bytes.now c.args.numbers.now.items c.loop.numbers.items
    c.args.member.now c.loop.member c.standing_at.new.member c.loop.invariant.rounds c.standing_at.ensures.asks

pub returns-then-has-clause-works : goal.returns-then-has-clause-works
returns-then-has-clause-works g c =
    works_then c.args.member.now c.loop.member c.standing_at.new.member c.loop.invariant.works (works_asks c.loop.member c.standing_at.new.member c.standing_at.ensures.asks)

pub returns-then-has-clause-rounds : goal.returns-then-has-clause-rounds
returns-then-has-clause-rounds g c =
    rounds_still c.args.new.now.seen c.args.new.now.over c.args.new.now.path.now c.args.new.now.bytes.now c.args.numbers.now.items c.loop.numbers.items
    c.args.member.now c.loop.member c.standing_at.new.member c.loop.invariant.rounds c.standing_at.ensures.asks

pub returns-in_err-commands-clause-works : goal.returns-in_err-commands-clause-works
returns-in_err-commands-clause-works g c =
    works_then c.args.member.now c.loop.member c.standing_at.new.member c.loop.invariant.works (works_asks c.loop.member c.standing_at.new.member c.standing_at.ensures.asks)

pub returns-in_err-commands-clause-rounds : goal.returns-in_err-commands-clause-rounds
returns-in_err-commands-clause-rounds g c =
    rounds_still c.args.new.now.seen c.args.new.now.over c.args.new.now.path.now c.args.new.now.bytes.now c.args.numbers.now.items c.loop.numbers.items
    c.args.member.now c.loop.member c.standing_at.new.member c.loop.invariant.rounds c.standing_at.ensures.asks

pub returns-in_err-carry-clause-works : goal.returns-in_err-carry-clause-works
returns-in_err-carry-clause-works g c =
    works_then c.args.member.now c.loop.member c.carry.new.member c.loop.invariant.works
    (works_then c.loop.member c.standing_at.new.member c.carry.new.member (works_asks c.loop.member c.standing_at.new.member c.standing_at.ensures.asks) c.carry.ensures.works)

pub returns-in_err-carry-clause-rounds : goal.returns-in_err-carry-clause-rounds
returns-in_err-carry-clause-rounds g c =
    round_more c.args.new.now.seen c.args.new.now.over c.args.new.now.path.now c.args.new.now.bytes.now c.args.numbers.now.items c.loop.numbers.items
    c.carry.new.numbers.items c.as_slice.result.now c.args.member.now c.loop.member c.standing_at.new.member c.carry.new.member c.loop.invariant.rounds
    c.standing_at.ensures.asks c.carry.ensures.works.clear
    (λ clear. c.in_ok-commands.ensures.may (subst (λ (v : HoldingState). IsStanding v c.args.new.now.path.now c.in_ok-standing.standing) (sym c.standing_at.ensures.asks.holding)
    (c.in_ok-standing.ensures.standing (c.carry.ensures.works.clear clear))))
    (λ clear. subst (λ (l : List Command). PutsOver c.standing_at.new.member.holding c.args.new.now.path.now c.args.new.now.bytes.now l) (sym c.as_slice.ensures.value)
    (c.in_ok-commands.ensures.puts (subst (λ (v : HoldingState). IsStanding v c.args.new.now.path.now c.in_ok-standing.standing) (sym c.standing_at.ensures.asks.holding)
    (c.in_ok-standing.ensures.standing (c.carry.ensures.works.clear clear)))))
    c.carry.ensures.some

pub loop-preserved : goal.loop-preserved
loop-preserved g c = record {
  works =
      works_then c.args.member.now c.loop.member c.carry.new.member c.loop.invariant.works
      (works_then c.loop.member c.standing_at.new.member c.carry.new.member (works_asks c.loop.member c.standing_at.new.member c.standing_at.ensures.asks) c.carry.ensures.works);
  rounds =
      round_more c.args.new.now.seen c.args.new.now.over c.args.new.now.path.now c.args.new.now.bytes.now c.args.numbers.now.items c.loop.numbers.items
      c.carry.new.numbers.items c.as_slice.result.now c.args.member.now c.loop.member c.standing_at.new.member c.carry.new.member c.loop.invariant.rounds
      c.standing_at.ensures.asks c.carry.ensures.works.clear
      (λ clear. c.in_ok-commands.ensures.may (subst (λ (v : HoldingState). IsStanding v c.args.new.now.path.now c.in_ok-standing.standing) (sym c.standing_at.ensures.asks.holding)
      (c.in_ok-standing.ensures.standing (c.carry.ensures.works.clear clear))))
      (λ clear. subst (λ (l : List Command). PutsOver c.standing_at.new.member.holding c.args.new.now.path.now c.args.new.now.bytes.now l) (sym c.as_slice.ensures.value)
      (c.in_ok-commands.ensures.puts (subst (λ (v : HoldingState). IsStanding v c.args.new.now.path.now c.in_ok-standing.standing) (sym c.standing_at.ensures.asks.holding)
      (c.in_ok-standing.ensures.standing (c.carry.ensures.works.clear clear)))))
      c.carry.ensures.some;
}

pub returns-then-has-clause-there : goal.returns-then-has-clause-there
returns-then-has-clause-there g c = λ clear.
    on_ok c.kept.result _
    (there_of c.standing_at.new.member.holding c.args.new.now.path.now c.args.new.now.bytes.now c.in_ok-standing.standing
    (subst (λ (v : HoldingState). IsStanding v c.args.new.now.path.now c.in_ok-standing.standing) (sym c.standing_at.ensures.asks.holding) (c.in_ok-standing.ensures.standing clear))
    (c.has.ensures c.if-has.true))
