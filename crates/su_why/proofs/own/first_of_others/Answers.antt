use Rattle.std.proofs.Common.{rules, ◌≡◌, ◌≤◌, ◌∙◌, Some, length, ap, sym, subst}
use Rattle.std.proofs.lemmas.List.{take_all}
use Rattle.std.proofs.lemmas.List.Elements.{All-more}
use Rattle.std.specs.Option.{option_copied, option_map}
use Rattle.su_desk.specs.declared.entries.Entry.{Entry}
use Rattle.su_why.specs.Own.{AreMadeBy, author_at}
use Rattle.su_why.proofs.own.first_of_others.Goals as goal

pub loop-number-preserved : goal.loop-number-preserved
loop-number-preserved c =
    let entry = c.in-Some.entry.now in
    let same : entry.author ≡ c.args.user = search rules in
    All-more (λ n. author_at c.args.entries.now n ≡ Some c.args.user) c.args.numbers.now c.loop-number.number-index 0
    c.loop-number-test.true c.loop-number.invariant
    (ap (option_map (λ (e : Entry). e.author)) (sym c.entry_at.ensures)
    ∙ ap (λ o. option_map (λ (e : Entry). e.author) (option_copied o)) c.in-Some.is ∙ ap Some same)

pub returns-clause-own : goal.returns-clause-own
returns-clause-own c =
    let all : length c.args.numbers.now ≤ c.loop-number.number-index = search rules in
    subst (λ ns. AreMadeBy c.args.entries.now c.args.user ns) (take_all c.loop-number.number-index c.args.numbers.now all) c.loop-number.invariant
