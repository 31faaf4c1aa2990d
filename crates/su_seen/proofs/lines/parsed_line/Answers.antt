use Rattle.std.proofs.Common.{◌≡◌, ◌+◌, ◌-◌, length, take, drop, sym, ap, ◌∙◌, arith}
use Rattle.std.proofs.lemmas.List.{take_rest}
use Rattle.su_spelling.specs.Shown.{shown}
use Rattle.su_spelling.specs.Read.{read}
use Rattle.su_spelling.proofs.Public.{read-shown}
use Rattle.su_seen.proofs.Spaces.{cut_line}
use Rattle.su_seen.proofs.lines.parsed_line.Goals as goal

pub returns-then-line-place : goal.returns-then-line-place
returns-then-line-place c n path small bytes is =
    let at = c.place_of-place.ensures in
    let cut = cut_line c.args.line.now c.place_of-place.result n path small is at.within at.before at.at in
    let within = cut.within in let past = c.if-line-place.true in omega (arith, within, past)

pub returns-in_default : goal.returns-in_default
returns-in_default c n path small bytes is =
    let at = c.place_of-place.ensures in
    let cut = cut_line c.args.line.now c.place_of-place.result n path small is at.within at.before at.at in
    let read = c.in_default.ensures n small cut.number in cc read

pub returns-in-Ok : goal.returns-in-Ok
returns-in-Ok c n path small bytes is =
    let line = c.args.line.now in
    let p = c.place_of-place.result in
    let at = c.place_of-place.ensures in
    let cut = cut_line line p n path small is at.within at.before at.at in
    let rest : take (length line - (p + 1)) (drop (p + 1) line) ≡ shown path = take_rest line (p + 1) ∙ cut.behind in
    let number = c.in-Some.ensures n small cut.number in
    let same = sym c.in-Ok.ensures.value ∙ ap read rest ∙ read-shown path bytes in
    (cc number, cc same)

pub returns-in-Err-BadPath : goal.returns-in-Err-BadPath
returns-in-Err-BadPath c n path small bytes is =
    let line = c.args.line.now in
    let p = c.place_of-place.result in
    let at = c.place_of-place.ensures in
    let cut = cut_line line p n path small is at.within at.before at.at in
    let rest : take (length line - (p + 1)) (drop (p + 1) line) ≡ shown path = take_rest line (p + 1) ∙ cut.behind in
    let none = c.in-Err-BadPath.ensures.bad (cc) in
    let some = ap read rest ∙ read-shown path bytes in
    cc (none, some)
