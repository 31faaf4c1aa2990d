use Rattle.std.proofs.Common.{◌≡◌, ◌∙◌, ◌||◌, ◌&&◌, true, false, sym, ap, drop, ◌∷◌, ◌+◌}
use Rattle.std.proofs.lemmas.List.{at_drop_more}
use Rattle.su_bytes.specs.Place.{place_eq}
use Rattle.su_op.proofs.KeyLemmas.{place_eq-derived}
use Rattle.su_part_inverse.specs.Ready.{stood_at}
use Rattle.su_part_inverse.proofs.returns.stood_at.Goals as goal

pub returns-then-eq : goal.returns-then-eq
returns-then-eq c =
    let l = c.loop-kept in
    let xs = c.args.inodes.now in
    let p = c.args.place.now in
    let k = c.kept-item.result in
    let rest = drop (l.kept-index + 1) xs in
    let step : drop l.kept-index xs ≡ k ∷ rest = at_drop_more (λ rs. rs) xs l.kept-index k c.loop-kept-test.true ∙ ap (λ y. y ∷ rest) (sym c.kept-item.is) in
    let is : place_eq p k.place ≡ true = sym (place_eq-derived p k.place) ∙ sym c.eq.ensures ∙ c.if-eq.true in
    sym (l.invariant ∙ ap (λ ks. stood_at ks p) step ∙ ap (λ b. (b && true) || stood_at rest p) is)

pub loop-kept-preserved : goal.loop-kept-preserved
loop-kept-preserved c =
    let l = c.loop-kept in
    let xs = c.args.inodes.now in
    let p = c.args.place.now in
    let k = c.kept-item.result in
    let rest = drop (l.kept-index + 1) xs in
    let step : drop l.kept-index xs ≡ k ∷ rest = at_drop_more (λ rs. rs) xs l.kept-index k c.loop-kept-test.true ∙ ap (λ y. y ∷ rest) (sym c.kept-item.is) in
    let is : place_eq p k.place ≡ false = sym (place_eq-derived p k.place) ∙ sym c.eq.ensures ∙ c.if-eq.false in
    l.invariant ∙ ap (λ ks. stood_at ks p) step ∙ ap (λ b. (b && true) || stood_at rest p) is
