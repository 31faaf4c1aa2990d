use Rattle.std.proofs.Common.{◌≡◌, ◌∙◌, ap, length, arith}
use Rattle.std.proofs.lemmas.Bool.Decides.{nat_tests}
use Rattle.su_desk_lines.specs.declared.lines.NextLine.TheVariants.{Line, TooLong}
use Rattle.su_desk_script.proofs.Stepping.{reads_at, steps_line, steps_too_long}
use Rattle.su_desk_script.proofs.desk.next_step.Goals as goal

pub returns-in-Ok-Line : goal.returns-in-Ok-Line
returns-in-Ok-Line g c = λ input before known contents.
    let (rest, left, is) = reads_at (Line c.in-Ok-Line.line) _ _ input (rw c.in-Ok-Line.field-0-is at c.in-Ok-Line.ensures) known in
    steps_line c.args.session.now c.args.number input before c.line_step.new.session c.in-Ok-Line.line.items rest _ _ c.line_step.result is left
    (λ none. let empty : length c.as_slice.result.now ≡ 0 = ap length (c.as_slice.ensures.value ∙ none) in grind (arith, nat_tests))
    (rw c.as_slice.ensures.value at (c.line_step.ensures before contents))

pub returns-in-Ok-TooLong : goal.returns-in-Ok-TooLong
returns-in-Ok-TooLong g c = λ input before known contents.
    let (line, lines, is, long) = reads_at TooLong _ _ input (rw c.in-Ok-TooLong.field-0-is at c.in-Ok-TooLong.ensures) known in
    steps_too_long c.args.session.now c.args.number input before line lines _ _ is long (c.end_badly.ensures before contents)
