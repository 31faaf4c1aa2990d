use Rattle.std.proofs.Common.{◌≡◌, ◌⊎◌, refl, inr, sym, subst}
use Rattle.su_client_lines.specs.ClientScript.{line_said}
use Rattle.su_client_script.specs.Calls.{files_of}
use Rattle.su_client_work.specs.Member.{MemberState}
use Rattle.su_client_work.proofs.Public.{works_asks, works_same, works_then}
use Rattle.su_client_script.proofs.Carrying.{on_err_so, carries_some, line_some}
use Rattle.su_client_script.proofs.Leaving.{leaves_behind, line_steps, on_ok_if}
use Rattle.su_client_script.specs.Lines.{LineDoesSome}
use Rattle.su_client_script.specs.declared.steps.Step.TheVariants as step
use Rattle.su_client_script.proofs.steps.line_step.Goals as goal

pub returns-in-Ok-OutOfRange-clause-works : goal.returns-in-Ok-OutOfRange-clause-works
returns-in-Ok-OutOfRange-clause-works g c = works_same c.args.member.now c.args.member.now refl

pub returns-in-Ok-Bad-clause-works : goal.returns-in-Ok-Bad-clause-works
returns-in-Ok-Bad-clause-works g c = works_same c.args.member.now c.args.member.now refl

pub returns-in-Err-clause-works : goal.returns-in-Err-clause-works
returns-in-Err-clause-works g c = works_same c.args.member.now c.args.member.now refl

pub returns-in_ok-outcome-in-Ok-Command-clause-works : goal.returns-in_ok-outcome-in-Ok-Command-clause-works
returns-in_ok-outcome-in-Ok-Command-clause-works g c =
    works_then c.args.member.now c.command_step.new.member c.settle.new.member c.command_step.ensures.works
    (works_asks c.command_step.new.member c.settle.new.member c.settle.ensures.leaves.asks)

pub returns-in_ok-outcome-in-Ok-Command-clause-steps : goal.returns-in_ok-outcome-in-Ok-Command-clause-steps
returns-in_ok-outcome-in-Ok-Command-clause-steps g c =
    let it = c.in-Ok-Command.command in
    let m = c.command_step.new.member in
    let t = c.settle.new.member in
    let done = c.in_ok-outcome-in-Ok-Command in
    on_ok_if c.settle.result (λ st. (st ≡ step.Done) ⊎ (st ≡ step.Refused)) _
    (λ st which. line_steps g.P.Surroundings.may_connect (files_of g.P.Program.saves g.P.Program.opens) c.args.manner.batches c.args.number c.args.line.now it c.args.member.now m t
    (g.O.Write.contents c.args.output.now) (g.O.Write.contents c.command_step.new.output) (sym (rw c.in-Ok-Command.field-0-is at c.in-Ok-Command.ensures)) st which done.ensures.carries
    (leaves_behind it done.outcome m t done.ensures.outcome c.settle.ensures.leaves c.settle.ensures.same)) c.settle.ensures.step

pub returns-in_ok-outcome-in-Ok-Command-clause-some : goal.returns-in_ok-outcome-in-Ok-Command-clause-some
returns-in_ok-outcome-in-Ok-Command-clause-some g c =
    let (text, carries, printed) = c.in_ok-outcome-in-Ok-Command.ensures.carries in
    on_err_so c.settle.result (c.settle.new.member ≡ c.command_step.new.member) (LineDoesSome g.P.Surroundings.may_connect c.args.manner.batches c.args.line.now c.args.member.now c.settle.new.member)
    (λ same. subst (λ (x : MemberState). LineDoesSome g.P.Surroundings.may_connect c.args.manner.batches c.args.line.now c.args.member.now x) (sym same)
    (inr (line_some g.P.Surroundings.may_connect c.args.manner.batches (line_said c.args.line.now) c.in-Ok-Command.command c.args.member.now c.command_step.new.member (sym (rw c.in-Ok-Command.field-0-is at c.in-Ok-Command.ensures))
    (carries_some g.P.Surroundings.may_connect (files_of g.P.Program.saves g.P.Program.opens) c.args.manner.batches c.in-Ok-Command.command c.args.member.now c.command_step.new.member text carries)))) c.settle.ensures.err
