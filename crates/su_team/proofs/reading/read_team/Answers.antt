use Rattle.std.proofs.Common.{◌≡◌, drop, length, sym, ap, ◌∙◌, arith}
use Rattle.su_team.specs.Team.{user_lines}
use Rattle.std.proofs.lemmas.Bool.Decides.{nat_tests}
use Rattle.su_team.proofs.TeamUserLemmas.{no_lines}
use Rattle.su_team.proofs.WholeTexts.{only_memory, some_lines}
use Rattle.su_team.proofs.reading.read_team.Goals as goal

pub returns-in_err-users-clause-read : goal.returns-in_err-users-clause-read
returns-in_err-users-clause-read c users team is =
    let lines : c.in-Some.lines.now ≡ user_lines users = c.in-Some.ensures.cases.1 ∙ ap (drop 13) is in
    let memory = only_memory c.in_err-users.field-0.0 c.in-Some.lines.now users team lines c.in_err-users.ensures.wrong in
    grind (arith, memory, c.from_residual.ensures)

pub returns-then-is_empty-clause-read : goal.returns-then-is_empty-clause-read
returns-then-is_empty-clause-read c users team is =
    let lines : c.in-Some.lines.now ≡ user_lines users = c.in-Some.ensures.cases.1 ∙ ap (drop 13) is in
    let none : length c.in_ok-users.users.items ≡ 0 = grind (arith, nat_tests, c.if-is_empty.ensures) in
    absurd (some_lines users team (sym lines ∙ sym c.in_ok-users.ensures.ok ∙ no_lines c.in_ok-users.users.items none))
