use Rattle.std.proofs.Common.{◌≡◌, ◌∙◌, ap, None, subst}
use Rattle.su_desk_script.specs.Session.{SessionState}
use Rattle.su_desk_script.specs.Transcript.{PrintsFrom, start, status_of}
use Rattle.su_desk_script.proofs.desk.run_desk.Goals as goal

pub returns : goal.returns
returns g c = λ input before known contents.
    let session : c.new.result ≡ start c.args.users c.args.format = c.new.ensures ∙ ap (λ d. record { desk = d.settled; format = c.args.format; mark = None }) c.in-Ok.ensures in
    subst (λ (s : SessionState). PrintsFrom s 1 input before (g.W.Write.contents c.run.new.writer) (status_of c.run.result)) session (c.run.ensures input before (c.new-2.ensures ∙ known) contents)
