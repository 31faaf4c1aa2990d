use Rattle.std.proofs.Common.{◌≡◌}
use Rattle.std.specs.Prelude.{Err}
use Rattle.std.proofs.lemmas.Result.{err_from_is_err_and}
use Rattle.su_part.proofs.ShedLemmas.{shed_handed_on, sheds_on}
use Rattle.su_part_forest.proofs.ForestSheds.{all_put, nothing_left}
use Rattle.su_part_forest.proofs.forests.PartForest.shed.Goals as goal

pub returns-in_err-shed_users-clause-sheds : goal.returns-in_err-shed_users-clause-sheds
returns-in_err-shed_users-clause-sheds g c =
    let p = err_from_is_err_and c.from_residual.result c.from_residual.ensures.1 in
    let is : c.shed_users.result ≡ Err p.0 = cc (c.in_err-shed_users.was, p.2) in
    shed_handed_on p.0 is p.1 c.shed_users.ensures.sheds

pub returns-clause-sheds : goal.returns-clause-sheds
returns-clause-sheds g c = sheds_on g.met.S.BlockSource.follows_itself g.met.S.BlockSource.follows_on c.in_ok-shed_users.ensures.sheds c.shed_groups.ensures.sheds

pub returns-clause-none : goal.returns-clause-none
returns-clause-none g c = nothing_left c.shed_groups.result c.shed_users.new.self c.shed_groups.new.self c.shed_groups.ensures.users c.in_ok-shed_users.ensures.none c.shed_groups.ensures.none

pub returns-clause-put : goal.returns-clause-put
returns-clause-put g c =
    all_put c.args.self.now c.shed_groups.new.self
    (nothing_left c.shed_groups.result c.shed_users.new.self c.shed_groups.new.self c.shed_groups.ensures.users c.in_ok-shed_users.ensures.none c.shed_groups.ensures.none)
    (sheds_on g.met.S.BlockSource.follows_itself g.met.S.BlockSource.follows_on c.in_ok-shed_users.ensures.sheds c.shed_groups.ensures.sheds)
