use Rattle.std.proofs.Common.{◌≡◌, ◌∙◌, sym, ap, subst, take, ◌++◌, ◌∷◌, []}
use Rattle.std.specs.Prelude.{Ok, Err}
use Rattle.std.proofs.lemmas.List.{take_more}
use Rattle.std.proofs.lemmas.Result.{err_from_is_err_and}
use Rattle.su_part.proofs.LoadLemmas.{answered, handed_on, loads_on, nothing_asked}
use Rattle.su_part_forest.specs.Loading.{HashedFor}
use Rattle.su_part_forest.proofs.Lifting.{all_kept}
use Rattle.su_perform.specs.Loaded.{HasAreas}
use Rattle.su_part_forest.proofs.Reading.{kept_on}
use Rattle.su_perform.proofs.LoadedLemmas.{areas_joined, areas_on, less}
use Rattle.su_perform.proofs.loading.fetch.Goals as goal

pub loop-area-init : goal.loop-area-init
loop-area-init g c = record {
  loads = nothing_asked c.args.forest.now c.args.forest.now c.args.source.now (Ok tt) tt (all_kept c.args.forest.now) (λ T h. h) (g.met.S.BlockSource.follows_itself c.args.source.now);
  has = λ T h free. tt;
}

pub loop-area-preserved : goal.loop-area-preserved
loop-area-preserved g c =
    let l = c.loop-area in
    let all = c.args.areas.now in
    let more = take_more all l.area-index c.area-item.result c.loop-area-test.true ∙ ap (λ x. take l.area-index all ++ x ∷ []) (sym c.area-item.is) in
    record {
      loads = answered (Ok tt) tt (loads_on kept_on g.met.S.BlockSource.follows_on l.invariant.loads c.fetch_area.ensures.loads);
      has = λ T h free.
          let stands = l.invariant.loads.stands T h free in
          let fewer = less (HashedFor T) _ _ free l.invariant.loads.no_more in
          let after = c.fetch_area.ensures.loads.stands T stands fewer in
          subst (HasAreas T c.fetch_area.new.forest) (sym more)
          (areas_joined c.fetch_area.new.forest T (take l.area-index all) _
          (areas_on l.forest c.fetch_area.new.forest T c.fetch_area.ensures.loads.keeps stands after (take l.area-index all) (l.invariant.has T h free))
          (c.in_ok-fetch_area.ensures.has T stands fewer, tt));
    }

pub returns-in_err-fetch_area-clause-loads : goal.returns-in_err-fetch_area-clause-loads
returns-in_err-fetch_area-clause-loads g c =
    let p = err_from_is_err_and c.from_residual.result c.from_residual.ensures.1 in
    let is : c.fetch_area.result ≡ Err p.0 = cc (c.in_err-fetch_area.was, p.2) in
    handed_on p.0 is p.1 (loads_on kept_on g.met.S.BlockSource.follows_on c.loop-area.invariant.loads c.fetch_area.ensures.loads)
