use Rattle.std.proofs.Common.{inl, inr, subst, ◌∙◌, ap, ℕ, List, None, Some}
use Rattle.su_pieces.specs.Put.{Put}
use Rattle.su_legal.specs.Legal.{history}
use Rattle.su_view.specs.Holding.{HoldingState}
use Rattle.su_person.specs.declared.putting.Standing.{Standing}
use Rattle.su_person.specs.Putting.{IsStanding}
use Rattle.su_person.proofs.PutLemmas.{may_write, of_ok}
use Rattle.su_person.proofs.putting.commands_for.Goals.{in-Nothing, in-File+in_ok-check_seen-in-File}
use Rattle.su_person.proofs.putting.commands_for.Goals as goal

pub returns-in-Ok-clause-may : goal.returns-in-Ok-clause-may
returns-in-Ok-clause-may g c = λ stands.
    let v = c.args.member.now.holding in
    let new = c.args.new.now in
    elim c.match-standing.branch [
      | in-Nothing w ↦ inr (inl (subst (λ (it : Standing). IsStanding v new.path.now it) w.in-Nothing.is stands))
      | in-File+in_ok-check_seen-in-File w ↦
          let there = subst (λ (it : Standing). IsStanding v new.path.now it) w.in-File.is stands in
          may_write v new.seen new.over new.path.now w.in-File.file w.user.result w.history-history.result.now there.found
          (w.user.ensures ∙ ap (λ (x : HoldingState). x.user) w.view-in-File.ensures.holding)
          (w.history-history.ensures ∙ ap (λ (x : HoldingState). history x.held) w.view.ensures.holding)
          w.in_ok-check_seen-in-File.ensures.knows
    ]

pub returns-in-Ok-clause-puts : goal.returns-in-Ok-clause-puts
returns-in-Ok-clause-puts g c = λ stands.
    let v = c.args.member.now.holding in
    let new = c.args.new.now in
    elim c.match-standing.branch [
      | in-Nothing w ↦ (
        None,
        subst (λ (it : Standing). IsStanding v new.path.now it) w.in-Nothing.is stands,
        of_ok (λ commands. Put new.path.now None new.bytes.now commands.items) w.put_commands-commands.result c.match-standing.commands c.in-Ok.commands
            w.commands-is c.in-Ok.is w.put_commands-commands.ensures.puts,
      )
      | in-File+in_ok-check_seen-in-File w ↦ (
        Some w.in-File.bytes.items,
        (w.in-File.file, subst (λ (it : Standing). IsStanding v new.path.now it) w.in-File.is stands),
        subst (λ (old : List ℕ). Put new.path.now (Some old) new.bytes.now c.in-Ok.commands.items) w.as_slice.ensures.value
            (of_ok (λ commands. Put new.path.now (Some w.as_slice.result.now) new.bytes.now commands.items) w.put_commands-commands-in-File.result
            c.match-standing.commands c.in-Ok.commands w.commands-is c.in-Ok.is w.put_commands-commands-in-File.ensures.puts),
      )
    ]
