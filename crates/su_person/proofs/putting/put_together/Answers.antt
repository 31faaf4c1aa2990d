use Rattle.std.proofs.Common.{◌≡◌, ◌++◌, ℕ, List, subst}
use Rattle.su_draft.specs.declared.commands.Command.{Command}
use Rattle.su_person.specs.Carrying.{CarriesSome}
use Rattle.su_person.specs.declared.carrying.Others.TheVariants.{Unwelcome}
use Rattle.su_client_work.proofs.Public.{works_asks, works_then}
use Rattle.su_person.proofs.PutLemmas.{no_round, round_of}
use Rattle.su_person.proofs.putting.put_together.Goals as goal

pub returns-in_err-commands-clause-works : goal.returns-in_err-commands-clause-works
returns-in_err-commands-clause-works g c =
    works_asks c.args.member.now c.commands_for_all.new.member c.commands_for_all.ensures.asks

pub returns-in_err-commands-clause-round : goal.returns-in_err-commands-clause-round
returns-in_err-commands-clause-round g c =
    no_round c.args.first.items c.args.files.now c.args.member.now c.commands_for_all.new.member c.args.numbers.now.items c.commands_for_all.ensures.asks

pub returns-in_err-carry-clause-works : goal.returns-in_err-carry-clause-works
returns-in_err-carry-clause-works g c =
    works_then c.args.member.now c.commands_for_all.new.member c.carry.new.member (works_asks c.args.member.now c.commands_for_all.new.member c.commands_for_all.ensures.asks)
    c.carry.ensures.works

pub returns-in_err-carry-clause-round : goal.returns-in_err-carry-clause-round
returns-in_err-carry-clause-round g c =
    round_of c.args.first.items c.args.files.now c.in_ok-commands.commands.items c.args.member.now c.commands_for_all.new.member c.carry.new.member c.args.numbers.now.items
    c.carry.new.numbers.items c.commands_for_all.ensures.asks c.carry.ensures.works.clear c.in_ok-commands.ensures.puts
    (subst (λ (l : List Command). (ns : List ℕ) × (c.carry.new.numbers.items ≡ c.args.numbers.now.items ++ ns) × CarriesSome Unwelcome l c.commands_for_all.new.member ns c.carry.new.member)
    c.as_slice.ensures.value c.carry.ensures.some)

pub returns-clause-works : goal.returns-clause-works
returns-clause-works g c =
    works_then c.args.member.now c.commands_for_all.new.member c.carry.new.member (works_asks c.args.member.now c.commands_for_all.new.member c.commands_for_all.ensures.asks)
    c.carry.ensures.works

pub returns-clause-round : goal.returns-clause-round
returns-clause-round g c =
    round_of c.args.first.items c.args.files.now c.in_ok-commands.commands.items c.args.member.now c.commands_for_all.new.member c.carry.new.member c.args.numbers.now.items
    c.carry.new.numbers.items c.commands_for_all.ensures.asks c.carry.ensures.works.clear c.in_ok-commands.ensures.puts
    (subst (λ (l : List Command). (ns : List ℕ) × (c.carry.new.numbers.items ≡ c.args.numbers.now.items ++ ns) × CarriesSome Unwelcome l c.commands_for_all.new.member ns c.carry.new.member)
    c.as_slice.ensures.value c.carry.ensures.some)
