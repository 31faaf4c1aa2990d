use Rattle.std.proofs.Common.{◌≡◌, length, refl, ap, ◌∙◌, arith}
use Rattle.std.proofs.lemmas.Bool.Decides.{nat_tests}
use Rattle.su_client_work.proofs.Public.{works_same}
use Rattle.su_desk_lines.specs.declared.lines.NextLine.TheVariants.{Line}
use Rattle.su_client_script.specs.Calls.{files_of}
use Rattle.su_client_script.proofs.Stepping.{reads_at, steps_so}
use Rattle.su_client_script.proofs.scripts.next_step.Goals as goal

pub returns-in-empty-clause-works : goal.returns-in-empty-clause-works
returns-in-empty-clause-works g c = works_same c.args.member.now c.args.member.now refl

pub returns-in-Ok-TooLong-clause-works : goal.returns-in-Ok-TooLong-clause-works
returns-in-Ok-TooLong-clause-works g c = works_same c.args.member.now c.args.member.now refl

pub returns-in-Ok-End-clause-works : goal.returns-in-Ok-End-clause-works
returns-in-Ok-End-clause-works g c = works_same c.args.member.now c.args.member.now refl

pub returns-clause-works : goal.returns-clause-works
returns-clause-works g c = works_same c.args.member.now c.args.member.now refl

pub returns-in-Ok-Line-clause-steps : goal.returns-in-Ok-Line-clause-steps
returns-in-Ok-Line-clause-steps g c = λ input known.
    let (rest, left, is) = reads_at (Line c.in-Ok-Line.line) _ _ input (rw c.in-Ok-Line.field-0-is at c.in-Ok-Line.ensures) known in
    steps_so g.P.Surroundings.may_connect (files_of g.P.Program.saves g.P.Program.opens) c.args.manner.batches c.args.number input c.in-Ok-Line.line.items rest c.args.member.now c.line_step.new.member _
    (g.O.Write.contents c.args.output.now) (g.O.Write.contents c.line_step.new.output) c.line_step.result left is
    (λ none. let empty : length c.as_slice.result.now ≡ 0 = ap length (c.as_slice.ensures.value ∙ none) in grind (arith, nat_tests))
    (rw c.as_slice.ensures.value at c.line_step.ensures.steps) (rw c.as_slice.ensures.value at c.line_step.ensures.some)
