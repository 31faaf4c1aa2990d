use Rattle.std.proofs.Common.{sym, ◌∙◌, subst}
use Rattle.std.specs.Str.{IsUtf8}
use Rattle.std.proofs.lemmas.Fmt.{IsAscii-decimal, parse-decimal}
use Rattle.std.proofs.lemmas.Str.{IsUtf8-from_ascii}
use Rattle.su_seen.proofs.lines.parsed_number.Goals as goal

pub returns-in-Ok : goal.returns-in-Ok
returns-in-Ok c n small digits =
    let read = parse-decimal 64 n c.in-Ok.digits.now c.parse.result small small (c.in-Ok.ensures.cases.0 ∙ digits) c.parse.ensures.value.0 in
    cc (read, c.ok.ensures.value)

pub returns-in-Err : goal.returns-in-Err
returns-in-Err c n small digits =
    absurd (c.in-Err.ensures.cases.0 (subst IsUtf8 (sym digits) (IsUtf8-from_ascii _ (IsAscii-decimal n small))))
