use Rattle.std.proofs.Common.{◌≡◌, ◌∙◌, true, sym, ap, subst, Result, Ok, Err, IfOk, List, [], ◌∷◌, ◌++◌, map, take, length, arith}
use Rattle.std.specs.List.{All}
use Rattle.std.proofs.Math.Seq.{take-length}
use Rattle.std.proofs.lemmas.List.{take_more}
use Rattle.std.proofs.lemmas.Result.{err_from_is_err_and}
use Rattle.std.proofs.lemmas.List.Elements.{All-push}
use Rattle.su_bytes.specs.declared.refusals.Refusal.{Refusal}
use Rattle.su_table.specs.Tree.{Tree}
use Rattle.su_table.specs.Cell.{Cell}
use Rattle.su_op.specs.declared.areas.Area.{Area}
use Rattle.su_op.specs.Area.{has}
use Rattle.su_inverse.specs.Kept.{CanKeep}
use Rattle.su_inverse.specs.Whole.{made_whole, KindsChangeWhole}
use Rattle.su_inverse.proofs.WholeLemmas.{made_same}
use Rattle.su_perform.specs.Loaded.{HasArea, HasAreas}
use Rattle.su_part_inverse.specs.declared.inverses.Inverse.{Inverse}
use Rattle.su_part_inverse.specs.Kept.{inverse_areas}
use Rattle.su_part_inverse.proofs.Reading.{area_at}
use Rattle.su_part_inverse.proofs.WholeAreas.{all_loaded, covers_more, map_further}
use Rattle.su_part_inverse.proofs.wholes.build_whole.Goals as goal

covered : (w v : List Area) (r : Result Inverse Refusal) → ((c : Cell) → has w c ≡ true → has v c ≡ true) → IfOk r (λ i. (c : Cell) → has (inverse_areas i) c ≡ has v c) → IfOk r (λ i. (c : Cell) → has w c ≡ true → has (inverse_areas i) c ≡ true)
covered w v (Ok i) covers same = λ c is. same c ∙ covers c is
covered w v (Err e) covers same = tt

exactly : (T : Tree) (w v : List Area) (r : Result Inverse Refusal) → v ≡ map (made_whole T) w → KindsChangeWhole T w → IfOk r (λ i. (c : Cell) → has (inverse_areas i) c ≡ has v c)
    → IfOk r (λ i. (c : Cell) → has (inverse_areas i) c ≡ has w c)
exactly T w v (Ok i) made kinds same = λ c. same c ∙ ap (λ a. has a c) made ∙ made_same T w kinds c
exactly T w v (Err e) made kinds same = tt

pub loop-area-preserved : goal.loop-area-preserved
loop-area-preserved c =
    let l = c.loop-area in
    let all = c.args.areas.now in
    let whole = c.in_ok-whole.whole in
    let item = c.area-item.result in
    let more = take_more all l.area-index item c.loop-area-test.true ∙ ap (λ x. take l.area-index all ++ x ∷ []) (sym c.area-item.is) in
    let pushed = c.in_ok-push.ensures.items in
    record {
      covers = λ x is. ap (λ v. has v x) pushed ∙ covers_more (take l.area-index all) l.wider.items item whole l.invariant.covers c.in_ok-whole.ensures.covers x (sym (ap (λ v. has v x) more) ∙ is);
      can_keep = λ T h. subst (All (CanKeep T)) (sym pushed) (All-push (CanKeep T) l.wider.items whole (l.invariant.can_keep T h) (c.in_ok-whole.ensures.can_keep T h));
      made = λ T h. pushed
          ∙ ap (λ v. v ++ whole ∷ []) (l.invariant.made T h)
          ∙ ap (λ x. map (made_whole T) (take l.area-index all) ++ x ∷ []) (c.in_ok-whole.ensures.value T h)
          ∙ sym (map_further (made_whole T) (take l.area-index all) item)
          ∙ ap (map (made_whole T)) (sym more);
    }

pub returns-in_err-whole-clause-loaded : goal.returns-in_err-whole-clause-loaded
returns-in_err-whole-clause-loaded c T h has =
    let l = c.loop-area in
    let all = c.args.areas.now in
    let p = err_from_is_err_and c.from_residual-in_err-whole.result c.from_residual-in_err-whole.ensures.1 in
    rw (p.1, p.2) (c.in_err-whole.ensures.loaded T h (subst (HasArea T c.args.forest.now) (sym c.area-item.is) (area_at T c.args.forest.now all l.area-index c.area-item.result c.loop-area-test.true has)))

pub returns-clause-covers : goal.returns-clause-covers
returns-clause-covers c =
    let l = c.loop-area in
    let all = c.args.areas.now in
    let index : l.area-index ≡ length all = omega (arith, c.loop-area-test.false, l.auto.area-index-end) in
    let done = ap (λ n. take n all) index ∙ take-length all in
    covered all c.as_slice.result.now c.build.result (λ x is. ap (λ v. has v x) c.as_slice.ensures.value ∙ l.invariant.covers x (ap (λ v. has v x) done ∙ is)) c.build.ensures.areas

pub returns-clause-exact : goal.returns-clause-exact
returns-clause-exact c T h kinds =
    let l = c.loop-area in
    let all = c.args.areas.now in
    let index : l.area-index ≡ length all = omega (arith, c.loop-area-test.false, l.auto.area-index-end) in
    let done = ap (λ n. take n all) index ∙ take-length all in
    exactly T all c.as_slice.result.now c.build.result (c.as_slice.ensures.value ∙ l.invariant.made T h ∙ ap (map (made_whole T)) done) kinds c.build.ensures.areas

pub returns-clause-kept : goal.returns-clause-kept
returns-clause-kept c T h = c.build.ensures.kept T h (subst (All (CanKeep T)) (sym c.as_slice.ensures.value) (c.loop-area.invariant.can_keep T h))

pub returns-clause-loaded : goal.returns-clause-loaded
returns-clause-loaded c T h has =
    let l = c.loop-area in
    let all = c.args.areas.now in
    let index : l.area-index ≡ length all = omega (arith, c.loop-area-test.false, l.auto.area-index-end) in
    let done = ap (λ n. take n all) index ∙ take-length all in
    c.build.ensures.loaded T h (subst (HasAreas T c.args.forest.now) (sym (c.as_slice.ensures.value ∙ l.invariant.made T h ∙ ap (map (made_whole T)) done)) (all_loaded T c.args.forest.now all has))
