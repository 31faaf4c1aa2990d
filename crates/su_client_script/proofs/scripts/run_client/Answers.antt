use Rattle.std.proofs.Common.{[], refl, ◌∙◌, inl}
use Rattle.su_client_work.proofs.Public.{works_same, works_then}
use Rattle.su_client_script.specs.Calls.{files_of}
use Rattle.su_client_script.proofs.Adding.{adds_none, adds_then}
use Rattle.su_client_script.proofs.Stepping.{none_carried, goes_on, ends, fails}
use Rattle.su_client_script.proofs.scripts.run_client.Goals as goal

pub loop-number-init : goal.loop-number-init
loop-number-init g c = record {
  works = works_same c.args.member.now c.args.member.now refl;
  adds = adds_none (g.O.Write.contents c.args.output.now) (g.O.Write.contents c.args.output.now) refl;
  carried = λ script is. none_carried g.P.Surroundings.may_connect (files_of g.P.Program.saves g.P.Program.opens) c.args.manner.batches script _ c.args.member.now (g.O.Write.contents c.args.output.now) (c.new-lines.ensures ∙ is);
}

pub returns-in-Some-clause-works : goal.returns-in-Some-clause-works
returns-in-Some-clause-works g c =
    works_then c.args.member.now c.loop-number.member c.next_step.new.member c.loop-number.invariant.works c.next_step.ensures.works

pub returns-in-Err-clause-works : goal.returns-in-Err-clause-works
returns-in-Err-clause-works g c =
    works_then c.args.member.now c.loop-number.member c.next_step.new.member c.loop-number.invariant.works c.next_step.ensures.works

pub loop-number-preserved : goal.loop-number-preserved
loop-number-preserved g c = record {
  works = works_then c.args.member.now c.loop-number.member c.next_step.new.member c.loop-number.invariant.works c.next_step.ensures.works;
  adds = adds_then (g.O.Write.contents c.args.output.now) (g.O.Write.contents c.loop-number.output) (g.O.Write.contents c.next_step.new.output)
      c.loop-number.invariant.adds c.in-Ok.ensures.adds;
  carried = λ script is.
      let so_far = c.loop-number.invariant.carried script is in
      goes_on g.P.Surroundings.may_connect (files_of g.P.Program.saves g.P.Program.opens) c.args.manner.batches script c.loop-number.number _ c.args.member.now c.loop-number.member c.next_step.new.member
      (g.O.Write.contents c.args.output.now) (g.O.Write.contents c.loop-number.output) so_far _ (g.O.Write.contents c.next_step.new.output) c.in-Ok.step
      (c.in-Ok.ensures.steps so_far.rest so_far.left) c.in_default.ensures.ends;
}

pub returns-in-Some-clause-runs : goal.returns-in-Some-clause-runs
returns-in-Some-clause-runs g c = λ script is.
    let so_far = c.loop-number.invariant.carried script is in
    ends g.P.Surroundings.may_connect (files_of g.P.Program.saves g.P.Program.opens) c.args.manner.batches script c.loop-number.number _ c.args.member.now c.loop-number.member c.next_step.new.member
    (g.O.Write.contents c.args.output.now) (g.O.Write.contents c.loop-number.output) so_far _ (g.O.Write.contents c.next_step.new.output) c.in-Ok.step c.in-Some.ending
    (c.in-Ok.ensures.steps so_far.rest so_far.left) c.in-Some.ensures.ends

pub returns-in-Err-clause-runs : goal.returns-in-Err-clause-runs
returns-in-Err-clause-runs g c = λ script is.
    let so_far = c.loop-number.invariant.carried script is in (
      [],
      fails g.P.Surroundings.may_connect (files_of g.P.Program.saves g.P.Program.opens) c.args.manner.batches script c.loop-number.number _ c.args.member.now c.loop-number.member c.next_step.new.member
          (g.O.Write.contents c.args.output.now) (g.O.Write.contents c.loop-number.output) so_far (c.in-Err.ensures.steps so_far.rest so_far.left),
    )

pub returns-clause-runs : goal.returns-clause-runs
returns-clause-runs g c = λ script is.
    let so_far = c.loop-number.invariant.carried script is in (
      [],
      fails g.P.Surroundings.may_connect (files_of g.P.Program.saves g.P.Program.opens) c.args.manner.batches script c.loop-number.number _ c.args.member.now c.loop-number.member c.loop-number.member
          (g.O.Write.contents c.args.output.now) (g.O.Write.contents c.loop-number.output) so_far (inl refl),
    )
