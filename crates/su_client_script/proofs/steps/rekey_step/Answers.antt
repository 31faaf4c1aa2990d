use Rattle.std.proofs.Common.{refl, inl}
use Rattle.std.specs.Io.KnownBytes.{Appends}
use Rattle.su_view.specs.declared.refusals.ViewRefusal.TheVariants.{Plain}
use Rattle.su_client_work.proofs.Public.{works_same}
use Rattle.su_client_script.specs.Calls.{files_of}
use Rattle.su_client_script.specs.Carrying.{CarriesRekey}
use Rattle.su_client_script.specs.Lines.{Prints}
use Rattle.su_client_script.specs.Text.{refusal_shown}
use Rattle.su_client_script.proofs.Carrying.{on_ok_so}
use Rattle.su_client_script.proofs.steps.rekey_step.Goals as goal

pub returns-clause-works : goal.returns-clause-works
returns-clause-works g c = works_same c.args.member.now c.args.member.now refl

pub returns-clause-carries : goal.returns-clause-carries
returns-clause-carries g c =
    on_ok_so c.tell_refusal.result
    (Appends (g.O.Write.contents c.args.output.now) (g.O.Write.contents c.tell_refusal.new.output) (refusal_shown (Plain c.in-Err.refusal)))
    (Prints (g.O.Write.contents c.args.output.now) (g.O.Write.contents c.tell_refusal.new.output)
    (CarriesRekey g.P.Surroundings.may_connect (files_of g.P.Program.saves g.P.Program.opens) c.args.file.items c.args.member.now c.args.member.now))
    (λ printed. (refusal_shown (Plain c.in-Err.refusal), inl (refl, (Plain c.in-Err.refusal, refl)), printed))
    c.tell_refusal.ensures.printed
