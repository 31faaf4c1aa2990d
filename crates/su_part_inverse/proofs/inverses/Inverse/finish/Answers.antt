use Rattle.std.proofs.Common.{◌≡◌, ◌+◌, ◌<◌, ◌∙◌, sym, ap, subst, refl, [], drop, get_or, length, ◌∷◌, arith}
use Rattle.std.proofs.lemmas.List.{at_drop_more, drop_all}
use Rattle.su_undone.specs.Undone.{cut, cut_to, reset, written}
use Rattle.su_part_inverse.specs.Kept.{runs}
use Rattle.su_part_inverse.specs.Ready.{AreReady}
use Rattle.su_part_inverse.proofs.Moves.{cut_moves}
use Rattle.su_part_inverse.proofs.ReadyLemmas.{ready_on}
use Rattle.su_part_inverse.proofs.inverses.Inverse.finish.Goals as goal

pub loop-kept-preserved : goal.loop-kept-preserved
loop-kept-preserved c F T h ready =
    let l = c.loop-kept in
    let i = c.args.self.now in
    let xs = i.sizes.items in
    let first = c.kept-item.result in
    let rest = drop (l.kept-index + 1) xs in
    let whole = c.deref-kept-items.ensures.value in
    let within = subst (λ ys. l.kept-index < length ys) whole c.loop-kept-test.true in
    let is = c.kept-item.is ∙ ap (λ ys. get_or ys l.kept-index first) whole in
    let step : drop l.kept-index xs ≡ first ∷ rest = at_drop_more (λ rs. rs) xs l.kept-index first within ∙ ap (λ y. y ∷ rest) (sym is) in
    let (G, stands, left, same) = l.invariant F T h ready in
    let left' = subst (λ zs. AreReady [] zs i.resets.items (runs i) G T l.forest) step left in
    let (one, more) = left'.sizes in
    let known = c.cut.ensures.known G stands one.known (one.end_ refl) in (
      cut_to first G,
      c.cut.ensures.stands G stands one.known (one.end_ refl),
      ready_on [] G (cut_to first G) T l.forest c.cut.new.forest known (cut_moves G T first one.held) rest i.resets.items (runs i) (record { sizes = more; resets = left'.resets; blocks = left'.blocks }),
      sym (ap (λ zs. cut zs G) step) ∙ same,
    )

pub returns : goal.returns
returns c F T h ready back =
    let l = c.loop-kept in
    let i = c.args.self.now in
    let whole = ap length c.deref-kept-items.ensures.value in
    let done = drop_all l.kept-index i.sizes.items (omega (arith, c.loop-kept-test.false, whole)) in
    let (G, stands, left, same) = l.invariant F T h ready in
    let is : G ≡ cut i.sizes.items F = sym (ap (λ zs. cut zs G) done) ∙ same in
    c.set.ensures G T stands (subst (λ zs. AreReady [] zs i.resets.items (runs i) G T l.forest) done left) (ap (λ V. written (runs i) (reset i.resets.items V)) is ∙ back)
