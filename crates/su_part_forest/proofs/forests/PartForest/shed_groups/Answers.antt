use Rattle.std.proofs.Common.{◌≡◌, ◌∙◌, refl, arith}
use Rattle.std.specs.Prelude.{Err}
use Rattle.std.proofs.lemmas.Result.{err_from_is_err_and}
use Rattle.su_part_tree.specs.Part.{HasNone}
use Rattle.su_part.proofs.ShedLemmas.{shed_handed_on, sheds_on}
use Rattle.su_part_forest.proofs.ForestSheds.{all_left, nothing_shed, one_more_left}
use Rattle.su_part_forest.proofs.forests.PartForest.shed_groups.Goals as goal

pub loop-group-init : goal.loop-group-init
loop-group-init g c = record {
  sheds = nothing_shed g.S.BlockSource.may_give g.S.BlockSource.failed g.S.BlockSource.follows g.S.BlockSource.puts g.met.S.BlockSource.follows_itself c.args.self.now c.args.source.now tt;
  none = λ k lt. absurd (omega (arith, lt));
  count = refl;
  users = refl;
}

pub loop-group-preserved : goal.loop-group-preserved
loop-group-preserved g c = record {
  sheds = sheds_on g.met.S.BlockSource.follows_itself g.met.S.BlockSource.follows_on c.loop-group.invariant.sheds c.in_ok-shed_group.ensures.sheds;
  none = one_more_left (λ p. HasNone p.table) c.loop-group.self.groups.items c.shed_group.new.self.groups.items c.loop-group.group c.loop-group.invariant.none c.shed_group.ensures.others c.in_ok-shed_group.ensures.none;
  count = c.shed_group.ensures.count ∙ c.loop-group.invariant.count;
  users = c.shed_group.ensures.users ∙ c.loop-group.invariant.users;
}

pub returns-in_err-shed_group-clause-sheds : goal.returns-in_err-shed_group-clause-sheds
returns-in_err-shed_group-clause-sheds g c =
    let p = err_from_is_err_and c.from_residual.result c.from_residual.ensures.1 in
    let is : c.shed_group.result ≡ Err p.0 = cc (c.in_err-shed_group.was, p.2) in
    shed_handed_on p.0 is p.1 (sheds_on g.met.S.BlockSource.follows_itself g.met.S.BlockSource.follows_on c.loop-group.invariant.sheds c.shed_group.ensures.sheds)

pub returns-clause-none : goal.returns-clause-none
returns-clause-none g c = all_left (λ p. HasNone p.table) c.loop-group.self.groups.items (λ k lt. c.loop-group.invariant.none k (omega (arith, lt, c.loop-group.invariant.count)))
