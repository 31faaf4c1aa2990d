use Rattle.std.proofs.Common.{◌≡◌, ◌∙◌, ap}
use Rattle.std.specs.Prelude.{Ok, Err}
use Rattle.std.proofs.lemmas.Result.{err_from_is_err_and}
use Rattle.su_part.specs.declared.fetches.Wanted.TheVariants.{Nothing}
use Rattle.su_table.specs.Query.{value_number}
use Rattle.su_part.proofs.LoadLemmas.{answered, handed_on}
use Rattle.su_part_forest.proofs.Bridge.{size_seen}
use Rattle.su_part_forest.proofs.Reading.{inode_loaded}
use Rattle.su_part_forest.proofs.forests.PartForest.size_at.Goals as goal

pub returns-in_err-fetch-clause-loads : goal.returns-in_err-fetch-clause-loads
returns-in_err-fetch-clause-loads g c =
    let p = err_from_is_err_and c.from_residual.result c.from_residual.ensures.1 in
    let is : c.fetch.result ≡ Err p.0 = cc (c.in_err-fetch.was, p.2) in
    handed_on p.0 is p.1 c.fetch.ensures.loads

pub returns-clause-loads : goal.returns-clause-loads
returns-clause-loads g c = answered (Ok c.size.result) tt c.in_ok-fetch.ensures.loads

pub returns-clause-value : goal.returns-clause-value
returns-clause-value g c T h free =
    let after = c.fetch.ensures.loads.stands T h free in
    c.size.ensures (T, after) ∙ (ap value_number (size_seen c.fetch.new.self T after c.args.place (inode_loaded c.fetch.new.self c.args.place Nothing c.in_ok-fetch.ensures.has)))
