use Rattle.std.proofs.Common.{◌+◌, ◌∙◌, IsSome, ap, rules}
use Rattle.su_live.specs.Live.{cut_live, find_live}
use Rattle.su_live.proofs.LiveLemmas.{joined}
use Rattle.su_live.proofs.live.LiveOperations.join.Goals as goal

pub returns-clause-ok : goal.returns-clause-ok
returns-clause-ok g c =
    let there : IsSome (find_live c.args.operation.number c.args.self.now) = search rules in
    c.cut.ensures ∙ ap (cut_live (c.args.operation.number + 1)) c.in-Ok.ensures.ok ∙ joined c.args.operation c.args.self.now c.in-Ok.ensures.was there
