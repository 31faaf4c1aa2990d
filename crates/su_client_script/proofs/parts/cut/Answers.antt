use Rattle.std.proofs.Common.{◌≡◌, [], rules}
use Rattle.su_client_script.proofs.Cutting.{all_cut}
use Rattle.su_client_script.proofs.parts.cut.Goals as goal

pub returns-clause-cut : goal.returns-clause-cut
returns-clause-cut c =
    let none : c.loop-parts.left.items ≡ [] = search rules in
    all_cut c.args.batches c.args.operations.items c.loop-parts.left.items c.loop-parts.parts.items c.loop-parts.invariant none
