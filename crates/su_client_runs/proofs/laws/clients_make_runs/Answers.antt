use Rattle.std.proofs.Common.{subst}
use Rattle.su_view.specs.Acting.{Does}
use Rattle.su_client_runs.proofs.laws.clients_make_runs.Goals as goal

pub returns : goal.returns
returns c w es k s t run honest holds clear works =
    let does = subst (λ v. Does v works.acts t.holding) holds (works.does clear) in
    let on = c.acts_make_runs.ensures.acts w es k s.holding.itemless works.acts t.holding run honest does in
    record { acts = works.acts; commits = works.commits; run = on.0; holds = on.1; signed = works.signed; signs = works.signs }
