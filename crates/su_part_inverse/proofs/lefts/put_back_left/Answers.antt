use Rattle.std.proofs.Common.{◌≡◌, ◌+◌, ◌∙◌, sym, ap, subst, drop, ◌∷◌, arith}
use Rattle.std.proofs.lemmas.List.{at_drop_more, drop_all}
use Rattle.std.specs.List.{AllByRecursion}
use Rattle.su_part_forest.specs.Forest.{Stands}
use Rattle.su_undone.specs.Undone.{written, written_to}
use Rattle.su_part_inverse.specs.Lefts.{LeftIsReady}
use Rattle.su_part_inverse.proofs.LeftLemmas.{lefts_on}
use Rattle.su_part_inverse.proofs.lefts.put_back_left.Goals as goal

pub loop-kept-preserved : goal.loop-kept-preserved
loop-kept-preserved c F T h ready =
    let l = c.loop-kept in
    let xs = c.args.left.now in
    let first = c.kept-item.result in
    let rest = drop (l.kept-index + 1) xs in
    let step : drop l.kept-index xs ≡ first ∷ rest = at_drop_more (λ rs. rs) xs l.kept-index first c.loop-kept-test.true ∙ ap (λ y. y ∷ rest) (sym c.kept-item.is) in
    let (G, stands, left, same) = l.invariant F T h ready in
    let (one, more) = subst (AllByRecursion (LeftIsReady G T l.forest)) step left in (
      written_to first G,
      c.put_left.ensures.stands G T stands one,
      lefts_on first G T l.forest c.put_left.new.forest one.held (c.put_left.ensures.known G T stands one) rest more,
      sym (ap (λ ks. written ks G) step) ∙ same,
    )

pub returns : goal.returns
returns c F T h ready back =
    let l = c.loop-kept in
    let done = drop_all l.kept-index c.args.left.now (omega (arith, c.loop-kept-test.false)) in
    let (G, stands, left, same) = l.invariant F T h ready in
    let is : G ≡ written c.args.left.now F = sym (ap (λ ks. written ks G) done) ∙ same in
    subst (Stands l.forest) (is ∙ back) stands
