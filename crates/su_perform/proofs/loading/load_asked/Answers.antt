use Rattle.std.proofs.Common.{◌∙◌, subst}
use Rattle.su_asked.specs.Asked.{asked_first, asked_then}
use Rattle.su_asked.proofs.AskedLemmas.{asked_in_two_rounds}
use Rattle.su_part.proofs.LoadLemmas.{loads_on}
use Rattle.su_part_forest.specs.Loading.{HashedFor}
use Rattle.su_part_forest.specs.Seen.{seen}
use Rattle.su_part_forest.proofs.Lifting.{on_ok}
use Rattle.su_perform.specs.Loaded.{HasAreas}
use Rattle.su_part_forest.proofs.Reading.{kept_on}
use Rattle.su_perform.proofs.LoadedLemmas.{areas_joined, areas_on, areas_seen, first_light, less}
use Rattle.su_perform.proofs.loading.load_asked.Goals as goal

pub returns-clause-loads : goal.returns-clause-loads
returns-clause-loads g c = loads_on kept_on g.met.S.BlockSource.follows_on c.fetch.ensures.loads c.fetch-2.ensures.loads

pub returns-clause-has : goal.returns-clause-has
returns-clause-has g c T h free =
    let a = c.args.author in
    let o = c.args.op.now in
    let f1 = c.fetch.new.forest in
    let f2 = c.fetch-2.new.forest in
    let h1 = c.fetch.ensures.loads.stands T h free in
    let free1 = less (HashedFor T) _ _ free c.fetch.ensures.loads.no_more in
    let h2 = c.fetch-2.ensures.loads.stands T h1 free1 in
    let first : HasAreas T f1 (asked_first a o) = subst (HasAreas T f1) (c.as_slice.ensures.value ∙ c.in_ok-first.ensures.value) (c.in_ok-fetch.ensures.has T h free) in
    let same = asked_in_two_rounds (seen f1) T a o (areas_seen f1 T h1 (asked_first a o) (first_light a o) first) in
    let kept = areas_on f1 f2 T c.fetch-2.ensures.loads.keeps h1 h2 (asked_first a o) first in
    on_ok c.fetch-2.result
    (λ has. areas_joined f2 T (asked_first a o) (asked_then T a o) kept (subst (HasAreas T f2) (c.as_slice-2.ensures.value ∙ c.in_ok-then.ensures.value (T, h1) ∙ same) has))
    (c.fetch-2.ensures.has T h1 free1)
