use Rattle.std.proofs.Common.{◌≡◌, true, false, arith}
use Rattle.std.specs.Str.{is_utf8}
use Rattle.std.proofs.lemmas.Bool.Decides.{nat_tests}
use Rattle.std.proofs.lemmas.Grind.{common_steps}
use Rattle.std.proofs.lemmas.Str.{is_utf8-from_IsUtf8}
use Rattle.su_spelling.proofs.Characters.{is_utf8-not_IsUtf8}
use Rattle.su_spelling.proofs.showing.front_text.Goals as goal

pub returns-in-Ok : goal.returns-in-Ok
returns-in-Ok c =
    let text : is_utf8 c.in_ok-get.field-0.now ≡ true = is_utf8-from_IsUtf8 _ c.in-Ok.ensures.cases.1
    in grind (arith, common_steps, nat_tests, text, c.in_ok-get.ensures.lookup)

pub returns-in-Err : goal.returns-in-Err
returns-in-Err c =
    let none : is_utf8 c.in_ok-get.field-0.now ≡ false = is_utf8-not_IsUtf8 _ c.in-Err.ensures.cases.0
    in grind (arith, common_steps, nat_tests, none, c.in_ok-get.ensures.lookup)
