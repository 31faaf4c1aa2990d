use Rattle.std.proofs.Common.{◌≡◌, ◌+◌, ◌<◌, ◌∙◌, sym, ap, subst, [], drop, get_or, length, ◌∷◌, arith}
use Rattle.std.proofs.lemmas.List.{at_drop_more, drop_all}
use Rattle.su_part_forest.specs.Forest.{Stands}
use Rattle.su_undone.specs.Undone.{written, written_to}
use Rattle.su_part_inverse.specs.Ready.{AreReady}
use Rattle.su_part_inverse.proofs.Moves.{written_moves}
use Rattle.su_part_inverse.proofs.ReadyLemmas.{blocks_ready_on}
use Rattle.su_part_inverse.proofs.inverses.Inverse.write.Goals as goal

pub loop-kept-preserved : goal.loop-kept-preserved
loop-kept-preserved c F T h ready =
    let l = c.loop-kept in
    let i = c.args.self.now in
    let xs = i.blocks.items in
    let first = c.kept-item.result in
    let rest = drop (l.kept-index + 1) xs in
    let whole = c.deref-kept-items.ensures.value in
    let within = subst (λ ys. l.kept-index < length ys) whole c.loop-kept-test.true in
    let is = c.kept-item.is ∙ ap (λ ys. get_or ys l.kept-index first) whole in
    let step : drop l.kept-index xs ≡ first ∷ rest = at_drop_more (λ rs. rs) xs l.kept-index first within ∙ ap (λ y. y ∷ rest) (sym is) in
    let (G, stands, left, same) = l.invariant F T h ready in
    let left' = subst (λ ks. AreReady [] [] [] ks G T l.forest) step left in
    let (one, more) = left'.blocks in
    let known = c.write.ensures.known G T stands one in (
      written_to first G,
      c.write.ensures.stands G T stands one,
      record { sizes = tt; resets = tt; blocks = blocks_ready_on [] G (written_to first G) T l.forest c.write.new.forest known (written_moves first G T one.held) rest more },
      sym (ap (λ ks. written ks G) step) ∙ same,
    )

pub returns : goal.returns
returns c F T h ready back =
    let l = c.loop-kept in
    let i = c.args.self.now in
    let whole = ap length c.deref-kept-items.ensures.value in
    let done = drop_all l.kept-index i.blocks.items (omega (arith, c.loop-kept-test.false, whole)) in
    let (G, stands, left, same) = l.invariant F T h ready in
    let is : G ≡ written i.blocks.items F = sym (ap (λ ks. written ks G) done) ∙ same in
    subst (Stands l.forest) (is ∙ back) stands
