use Rattle.std.proofs.Common.{◌≡◌, ◌∙◌}
use Rattle.std.specs.Prelude.{Ok, Err}
use Rattle.std.proofs.lemmas.Result.{err_from_is_err_and}
use Rattle.su_part.proofs.LoadLemmas.{answered, handed_on}
use Rattle.su_part_forest.proofs.Reading.{body_seen}
use Rattle.su_part_forest.proofs.forests.PartForest.body_of.Goals as goal

pub returns-in_err-fetch_home-clause-loads : goal.returns-in_err-fetch_home-clause-loads
returns-in_err-fetch_home-clause-loads g c =
    let p = err_from_is_err_and c.from_residual.result c.from_residual.ensures.1 in
    let is : c.fetch_home.result ≡ Err p.0 = cc (c.in_err-fetch_home.was, p.2) in
    handed_on p.0 is p.1 c.fetch_home.ensures.loads

pub returns-clause-loads : goal.returns-clause-loads
returns-clause-loads g c = answered (Ok c.body.result) tt c.in_ok-fetch_home.ensures.loads

pub returns-clause-value : goal.returns-clause-value
returns-clause-value g c T h free =
    let after = c.fetch_home.ensures.loads.stands T h free in
    c.body.ensures (T, after) ∙ body_seen c.fetch_home.new.self T after c.args.file.now c.in_ok-fetch_home.ensures.has
