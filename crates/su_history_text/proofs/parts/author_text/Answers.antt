use Rattle.std.proofs.Common.{◌∙◌, ◌++◌, sym, ap, codes}
use Rattle.std.specs.Fmt.{decimal}
use Rattle.std.specs.String.{string_bytes}
use Rattle.std.proofs.lemmas.Str.{IsUtf8-from_ascii}
use Rattle.su_history_text.specs.Parts.{stays_on_line}
use Rattle.su_history_text.proofs.Staying.{stays-decimal, stays-told}
use Rattle.su_history_text.proofs.TeamNames.{is_named, user_name_ascii, user_name_stays}
use Rattle.su_history_text.proofs.parts.author_text.Goals as goal

pub returns-in_default-clause-line : goal.returns-in_default-clause-line
returns-in_default-clause-line c =
    stays-told string_bytes c.format.result (codes "user " ++ decimal c.number-number.result) c.format.ensures.ok (stays-decimal c.number-number.result)

pub unreachable-requires : goal.unreachable-requires
unreachable-requires c =
    let named = is_named c.args.team.now c.args.author c.in-Some.name.now c.user_count-users.ensures.team (sym c.in-Some.ensures) in
    c.in-Err.ensures.cases.0 (IsUtf8-from_ascii c.in-Some.name.now (user_name_ascii c.in-Some.name.now named))

pub returns-clause-line : goal.returns-clause-line
returns-clause-line c =
    let named = is_named c.args.team.now c.args.author c.in-Some.name.now c.user_count-users.ensures.team (sym c.in-Some.ensures) in
    stays-told string_bytes c.format-in-Ok.result c.in-Ok.name.now c.format-in-Ok.ensures.ok (ap stays_on_line c.in-Ok.ensures.cases.0 ∙ user_name_stays c.in-Some.name.now named)
