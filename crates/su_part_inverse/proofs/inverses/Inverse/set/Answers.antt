use Rattle.std.proofs.Common.{◌≡◌, ◌+◌, ◌<◌, ◌∙◌, sym, ap, subst, [], drop, get_or, length, ◌∷◌, arith}
use Rattle.std.proofs.lemmas.List.{at_drop_more, drop_all}
use Rattle.std.specs.List.{AllByRecursion}
use Rattle.su_bytes.specs.Place.{Place}
use Rattle.su_table.specs.Edit.{edits}
use Rattle.su_table.specs.Query.{size_at}
use Rattle.su_inverse.specs.Kept.{reset_edits}
use Rattle.su_undone.specs.Undone.{reset, written}
use Rattle.su_part_inverse.specs.Kept.{runs, runs_of}
use Rattle.su_part_inverse.specs.Lefts.{LeftIsReady}
use Rattle.su_part_inverse.specs.Ready.{AreReady}
use Rattle.su_part_inverse.proofs.LeftLemmas.{all_sized, lefts_ready}
use Rattle.su_part_inverse.proofs.Moves.{reset_moves}
use Rattle.su_part_inverse.proofs.ReadyLemmas.{ready_on}
use Rattle.su_part_inverse.proofs.inverses.Inverse.set.Goals as goal

pub loop-reset-preserved : goal.loop-reset-preserved
loop-reset-preserved c F T h ready =
    let l = c.loop-reset in
    let i = c.args.self.now in
    let xs = i.resets.items in
    let first = c.reset-item.result in
    let rest = drop (l.reset-index + 1) xs in
    let whole = c.deref-reset-items.ensures.value in
    let within = subst (λ ys. l.reset-index < length ys) whole c.loop-reset-test.true in
    let is = c.reset-item.is ∙ ap (λ ys. get_or ys l.reset-index first) whole in
    let step : drop l.reset-index xs ≡ first ∷ rest = at_drop_more (λ rs. rs) xs l.reset-index first within ∙ ap (λ y. y ∷ rest) (sym is) in
    let (G, stands, left, same) = l.invariant F T h ready in
    let left' = subst (λ rs. AreReady [] [] rs (runs i) G T l.forest) step left in
    let (one, more) = left'.resets in
    let known = c.set.ensures.known G stands one.known in (
      edits G (reset_edits first),
      c.set.ensures.stands G stands one.known,
      ready_on [] G (edits G (reset_edits first)) T l.forest c.set.new.forest known (reset_moves G T first one.held) [] rest (runs i) (record { sizes = tt; resets = more; blocks = left'.blocks }),
      sym (ap (λ rs. reset rs G) step) ∙ same,
    )

pub returns-in-None : goal.returns-in-None
returns-in-None c F T h ready back =
    let l = c.loop-reset in
    let i = c.args.self.now in
    let whole = ap length c.deref-reset-items.ensures.value in
    let done = drop_all l.reset-index i.resets.items (omega (arith, c.loop-reset-test.false, whole)) in
    let (G, stands, left, same) = l.invariant F T h ready in
    let is : G ≡ reset i.resets.items F = sym (ap (λ rs. reset rs G) done) ∙ same in
    let at_hand : runs i ≡ i.blocks.items = ap (λ o. (runs_of o i.blocks).items) c.in-None.is in
    c.write.ensures G T stands (subst (λ bs. AreReady [] [] [] bs G T l.forest) at_hand (subst (λ rs. AreReady [] [] rs (runs i) G T l.forest) done left))
    (subst (λ bs. written bs G ≡ T) at_hand (ap (written (runs i)) is ∙ back))

pub returns-in-Some : goal.returns-in-Some
returns-in-Some c F T h ready back =
    let l = c.loop-reset in
    let i = c.args.self.now in
    let whole = ap length c.deref-reset-items.ensures.value in
    let done = drop_all l.reset-index i.resets.items (omega (arith, c.loop-reset-test.false, whole)) in
    let (G, stands, left, same) = l.invariant F T h ready in
    let is : G ≡ reset i.resets.items F = sym (ap (λ rs. reset rs G) done) ∙ same in
    let all = subst (λ rs. AreReady [] [] rs (runs i) G T l.forest) done left in
    let to : written (runs i) G ≡ T = ap (written (runs i)) is ∙ back in
    let sizes : (p : Place) → size_at G p ≡ size_at T p = λ p. sym (all_sized (runs i) G p) ∙ ap (λ V. size_at V p) to in
    let ready' = lefts_ready G T l.forest sizes (runs i) all.blocks in
    let these : runs i ≡ c.as_slice.result.now = ap (λ o. (runs_of o i.blocks).items) c.in-Some.is ∙ sym c.as_slice.ensures.value in
    c.put_back_left.ensures G T stands (subst (AllByRecursion (LeftIsReady G T l.forest)) these ready') (subst (λ bs. written bs G ≡ T) these to)
