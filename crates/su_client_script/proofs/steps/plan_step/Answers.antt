use Rattle.std.proofs.Common.{inr}
use Rattle.su_client_work.proofs.Public.{works_takes, works_then}
use Rattle.su_client_script.specs.Carrying.{CarriesChange, CarriesSomeChange, CommitsUntil, CommitsSome}
use Rattle.su_client_script.specs.Lines.{Prints}
use Rattle.su_client_script.proofs.Carrying.{on_ok_so, on_err_so, prints_so}
use Rattle.su_client_script.proofs.steps.plan_step.Goals as goal

pub returns-in-Ok-clause-works : goal.returns-in-Ok-clause-works
returns-in-Ok-clause-works g c =
    works_then c.args.member.now c.plan_parts.new.member c.commit_all.new.member (works_takes c.args.member.now c.plan_parts.new.member c.plan_parts.ensures.takes) c.commit_all.ensures.works

pub returns-in-Err-clause-works : goal.returns-in-Err-clause-works
returns-in-Err-clause-works g c = works_takes c.args.member.now c.plan_parts.new.member c.plan_parts.ensures.takes

pub returns-in-Ok-clause-carries : goal.returns-in-Ok-clause-carries
returns-in-Ok-clause-carries g c =
    on_ok_so c.commit_all.result
    (Prints (g.O.Write.contents c.args.output.now) (g.O.Write.contents c.commit_all.new.output) (CommitsUntil g.P.Surroundings.may_connect c.in-Ok.parts.items c.plan_parts.new.member c.commit_all.new.member))
    (Prints (g.O.Write.contents c.args.output.now) (g.O.Write.contents c.commit_all.new.output) (CarriesChange g.P.Surroundings.may_connect c.args.batches c.args.command.now c.args.member.now c.commit_all.new.member))
    (prints_so _ _ _ _ (λ text commits. inr (record {
      turn = c.plan_parts.new.member;
      parts = c.in-Ok.parts.items;
      plans = c.in-Ok.ensures.plans;
      clear = c.commit_all.ensures.works.clear;
      committed = commits;
    }))) c.commit_all.ensures.commits

pub returns-in-Ok-clause-some : goal.returns-in-Ok-clause-some
returns-in-Ok-clause-some g c =
    on_err_so c.commit_all.result (CommitsSome g.P.Surroundings.may_connect c.in-Ok.parts.items c.plan_parts.new.member c.commit_all.new.member)
    (CarriesSomeChange g.P.Surroundings.may_connect c.args.batches c.args.command.now c.args.member.now c.commit_all.new.member)
    (λ commits. inr (record {
      turn = c.plan_parts.new.member;
      parts = c.in-Ok.parts.items;
      plans = c.in-Ok.ensures.plans;
      clear = c.commit_all.ensures.works.clear;
      committed = commits;
    })) c.commit_all.ensures.some
