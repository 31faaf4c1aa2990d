use Rattle.std.proofs.Common.{◌≡◌, ◌∙◌, ◌-◌, ◌++◌, List, ℕ, ap, drop, take, length, rules, arith}
use Rattle.std.proofs.lemmas.List.{take_all, length-drop}
use Rattle.su_desk_lines.proofs.Bytes.{taken_part}
use Rattle.su_desk_lines.proofs.lines.LineReader.take.Goals as goal

pub returns-in_ok-extend_from_slice-in-Some-clause-taken : goal.returns-in_ok-extend_from_slice-in-Some-clause-taken
returns-in_ok-extend_from_slice-in-Some-clause-taken g c =
    let start = c.args.self.now.start in
    let buffer = c.deref.result.now in
    let rest : List ℕ = take (length buffer - start) (drop start buffer) in
    let whole : rest ≡ drop start buffer = take_all _ (drop start buffer) (omega (arith, length-drop {A = ℕ})) in
    let grows : c.extend_from_slice.new.self.items ≡ c.args.line.now.items ++ take c.in-Some.end rest = search rules in
    taken_part c.args.self.now.filled.items c.args.line.now.items c.extend_from_slice.new.self.items start c.in-Some.end rest (whole ∙ ap (drop start) c.deref.ensures.value) c.in-Some.ensures.0 c.in-Some.ensures.1 grows
