use Rattle.std.proofs.Common.{[], refl, ◌∙◌, inr}
use Rattle.su_client_work.proofs.Public.{works_takes}
use Rattle.su_client_script.proofs.Adding.{appends_none}
use Rattle.su_client_script.proofs.Carrying.{saved_so}
use Rattle.su_client_script.proofs.steps.save_step.Goals as goal

pub returns-in-Ok-save-clause-works : goal.returns-in-Ok-save-clause-works
returns-in-Ok-save-clause-works g c = works_takes c.args.member.now c.log.new.self c.log.ensures.takes

pub returns-in-Err-save-clause-works : goal.returns-in-Err-save-clause-works
returns-in-Err-save-clause-works g c = works_takes c.args.member.now c.log.new.self c.log.ensures.takes

pub returns-in-Err-clause-works : goal.returns-in-Err-clause-works
returns-in-Err-clause-works g c = works_takes c.args.member.now c.log.new.self c.log.ensures.takes

pub returns-in-Ok-save-clause-carries : goal.returns-in-Ok-save-clause-carries
returns-in-Ok-save-clause-carries g c = (
  [],
  record {
    takes = c.log.ensures.takes;
    answers = inr (
      c.in-Ok.ensures.looks,
      (saved_so g.P.Program.saves _ _ _ c.args.file.items _ _ c.as_slice.ensures.value (c.as_slice-in-Ok.ensures.value ∙ c.in-Ok.ensures.log) c.in-Ok-save.ensures, refl),
    );
  },
  appends_none (g.O.Write.contents c.args.output.now) (g.O.Write.contents c.args.output.now) refl,
)
