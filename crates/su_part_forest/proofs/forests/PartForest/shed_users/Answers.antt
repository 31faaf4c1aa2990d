use Rattle.std.proofs.Common.{◌≡◌, ◌∙◌, refl, arith}
use Rattle.std.specs.Prelude.{Err}
use Rattle.std.proofs.lemmas.Result.{err_from_is_err_and}
use Rattle.su_part.specs.Sheds.{HasNothing}
use Rattle.su_part.proofs.ShedLemmas.{shed_handed_on, sheds_on}
use Rattle.su_part_forest.proofs.ForestSheds.{all_left, nothing_shed, one_more_left}
use Rattle.su_part_forest.proofs.forests.PartForest.shed_users.Goals as goal

pub loop-user-init : goal.loop-user-init
loop-user-init g c = record {
  sheds = nothing_shed g.S.BlockSource.may_give g.S.BlockSource.failed g.S.BlockSource.follows g.S.BlockSource.puts g.met.S.BlockSource.follows_itself c.args.self.now c.args.source.now tt;
  none = λ k lt. absurd (omega (arith, lt));
  count = refl;
}

pub loop-user-preserved : goal.loop-user-preserved
loop-user-preserved g c = record {
  sheds = sheds_on g.met.S.BlockSource.follows_itself g.met.S.BlockSource.follows_on c.loop-user.invariant.sheds c.in_ok-shed_user.ensures.sheds;
  none = one_more_left HasNothing c.loop-user.self.users.items c.shed_user.new.self.users.items c.loop-user.user c.loop-user.invariant.none c.shed_user.ensures.others c.in_ok-shed_user.ensures.none;
  count = c.shed_user.ensures.count ∙ c.loop-user.invariant.count;
}

pub returns-in_err-shed_user-clause-sheds : goal.returns-in_err-shed_user-clause-sheds
returns-in_err-shed_user-clause-sheds g c =
    let p = err_from_is_err_and c.from_residual.result c.from_residual.ensures.1 in
    let is : c.shed_user.result ≡ Err p.0 = cc (c.in_err-shed_user.was, p.2) in
    shed_handed_on p.0 is p.1 (sheds_on g.met.S.BlockSource.follows_itself g.met.S.BlockSource.follows_on c.loop-user.invariant.sheds c.shed_user.ensures.sheds)

pub returns-clause-none : goal.returns-clause-none
returns-clause-none g c = all_left HasNothing c.loop-user.self.users.items (λ k lt. c.loop-user.invariant.none k (omega (arith, lt, c.loop-user.invariant.count)))
