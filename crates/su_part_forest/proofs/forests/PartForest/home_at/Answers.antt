use Rattle.std.proofs.Common.{◌≡◌, ◌∙◌, Some, None, ap, sym}
use Rattle.std.specs.Prelude.{Ok, Err}
use Rattle.std.specs.FinMap.{get}
use Rattle.std.specs.Option.{option_map}
use Rattle.std.proofs.lemmas.Result.{err_from_is_err_and}
use Rattle.su_part.specs.declared.fetches.Wanted.TheVariants.{Nothing}
use Rattle.su_part.proofs.LoadLemmas.{answered, handed_on}
use Rattle.su_part_forest.proofs.Reading.{just_some, there_loaded}
use Rattle.su_part_forest.proofs.forests.PartForest.home_at.Goals as goal

pub returns-in_err-fetch-clause-loads : goal.returns-in_err-fetch-clause-loads
returns-in_err-fetch-clause-loads g c =
    let p = err_from_is_err_and c.from_residual.result c.from_residual.ensures.1 in
    let is : c.fetch.result ≡ Err p.0 = cc (c.in_err-fetch.was, p.2) in
    handed_on p.0 is p.1 c.fetch.ensures.loads

pub returns-in-Some-clause-loads : goal.returns-in-Some-clause-loads
returns-in-Some-clause-loads g c = answered (Ok (Some c.home.result)) tt c.in_ok-fetch.ensures.loads

pub returns-in-None-clause-loads : goal.returns-in-None-clause-loads
returns-in-None-clause-loads g c = answered (Ok None) tt c.in_ok-fetch.ensures.loads

pub returns-in-Some-clause-value : goal.returns-in-Some-clause-value
returns-in-Some-clause-value g c T h free =
    let after = c.fetch.ensures.loads.stands T h free in
    let there = c.in-Some.ensures.there T after (there_loaded c.fetch.new.self T after c.args.place Nothing c.in_ok-fetch.ensures.has) in
    let y = just_some (get T.inodes c.args.place) c.in-Some.inode.now there in
    ap Some (c.home.ensures y.0 y.2) ∙ sym (ap (option_map (λ i. i.home)) y.1)

pub returns-in-None-clause-value : goal.returns-in-None-clause-value
returns-in-None-clause-value g c T h free =
    let after = c.fetch.ensures.loads.stands T h free in
    let none = c.in-None.ensures.there T after (there_loaded c.fetch.new.self T after c.args.place Nothing c.in_ok-fetch.ensures.has) in
    sym (ap (option_map (λ i. i.home)) none)
