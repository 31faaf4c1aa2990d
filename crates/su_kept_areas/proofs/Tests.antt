-- The derived tests of places and of names are those of the definitions.
use Rattle.std.proofs.Common.{◌≡◌, ◌&&◌, nat_eq, refl, sym, ap, ◌∙◌, arith}
use Rattle.std.proofs.lemmas.Bool.Decides.{nat_tests}
use Rattle.std.specs.Cmp.Lexicographic.{pointwise, bytes_decides}
use Rattle.std.specs.Cmp.{both_ways}
use Rattle.su_node.specs.Name.{Name, name_eq}
use Rattle.su_bytes.specs.Place.{Place, place_eq}
use Rattle.su_op.proofs.Public.{name_eq-itself, name_eq-same, place_eq-itself, place_eq-same}

pub name_eq-derived : (x y : Name) → pointwise nat_eq x y ≡ name_eq x y
name_eq-derived x y = both_ways (pointwise nat_eq x y) (name_eq x y)
    (λ e. ap (name_eq x) (sym ((bytes_decides x y).0 e)) ∙ name_eq-itself x)
    (λ e. ap (pointwise nat_eq x) (sym (name_eq-same x y e)) ∙ (bytes_decides x x).1 refl)

pub place_eq-derived : (p q : Place) → (nat_eq p.0 q.0 && nat_eq p.1 q.1) ≡ place_eq p q
place_eq-derived p q = both_ways (nat_eq p.0 q.0 && nat_eq p.1 q.1) (place_eq p q)
    (λ e.
    let a : p.0 ≡ q.0 = grind (arith, nat_tests) in
    let b : p.1 ≡ q.1 = grind (arith, nat_tests) in
    let same : p ≡ q = λ i. (a i, b i) in
    ap (place_eq p) (sym same) ∙ place_eq-itself p)
    (λ e. let same : p ≡ q = place_eq-same p q e in
    ap (λ (r : Place). nat_eq p.0 r.0 && nat_eq p.1 r.1) (sym same) ∙ grind (arith, nat_tests))
