use Rattle.std.proofs.Common.{◌∙◌, ◌||◌, sym, ap, subst, take, ◌++◌, ◌∷◌, []}
use Rattle.std.proofs.lemmas.List.{take_more}
use Rattle.std.proofs.lemmas.Result.{err_from_is_err_and}
use Rattle.std.proofs.lemmas.List.Elements.{All-get_or}
use Rattle.su_op.specs.Area.{has, in_area}
use Rattle.su_inverse.specs.Kept.{CanKeep}
use Rattle.su_inverse.proofs.AreaListLemmas.{has-push}
use Rattle.su_perform.specs.Loaded.{HasArea}
use Rattle.su_part_inverse.specs.Kept.{kept_area}
use Rattle.su_part_inverse.proofs.Reading.{area_at}
use Rattle.su_part_inverse.proofs.inverses.build.Goals as goal

pub loop-area-preserved : goal.loop-area-preserved
loop-area-preserved c =
    let l = c.loop-area in
    let all = c.args.areas.now in
    let more = take_more all l.area-index c.area-item.result c.loop-area-test.true ∙ ap (λ x. take l.area-index all ++ x ∷ []) (sym c.area-item.is) in
    record {
      areas = λ x. c.in_ok-add.ensures.areas x
          ∙ ap (λ b. b || in_area (kept_area c.in_ok-keep.field-0) x) (l.invariant.areas x)
          ∙ ap (λ a. has (take l.area-index all) x || in_area a x) c.in_ok-keep.ensures.area
          ∙ sym (has-push (take l.area-index all) c.area-item.result x) ∙ ap (λ w. has w x) (sym more);
      kept = λ T h can. c.in_ok-add.ensures.kept T (l.invariant.kept T h can)
          (c.in_ok-keep.ensures.holds T h (subst (CanKeep T) (sym c.area-item.is) (All-get_or (CanKeep T) all l.area-index c.area-item.result c.loop-area-test.true can)));
      at_hand = c.in_ok-add.ensures.at_hand;
    }

pub returns-in_err-keep-clause-loaded : goal.returns-in_err-keep-clause-loaded
returns-in_err-keep-clause-loaded c T h loaded =
    let l = c.loop-area in
    let all = c.args.areas.now in
    let p = err_from_is_err_and c.from_residual.result c.from_residual.ensures.1 in
    let one = subst (HasArea T c.args.forest.now) (sym c.area-item.is) (area_at T c.args.forest.now all l.area-index c.area-item.result c.loop-area-test.true loaded) in
    rw (p.1, p.2) (c.in_err-keep.ensures.loaded T h one)
