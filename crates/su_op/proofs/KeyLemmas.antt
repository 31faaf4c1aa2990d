-- Places and names told apart, and maps by them.
use Rattle.std.proofs.Common.{◌≡◌, true, cond, ◌&&◌, nat_eq, Option, refl, sym, ap, ◌∙◌, arith}
use Rattle.std.proofs.lemmas.Bool.Decides.{nat_tests}
use Rattle.std.specs.Cmp.Lexicographic.{pointwise, bytes_decides}
use Rattle.std.specs.Cmp.{eq_by_cmp_equiv, both_ways}
use Rattle.std.specs.FinMap.{FinMap, get, same_map}
use Rattle.su_node.specs.Name.{Name, name_cmp, name_eq}
use Rattle.su_bytes.specs.Place.{Place, place_cmp, place_eq}
use Rattle.su_node.specs.InodeChange.{set_key}
use Rattle.su_node.proofs.Public.{get-set_key, eq_by_cmp-same, name_cmp_total, name_cmp_exact}
use Rattle.su_table.proofs.Public.{place_cmp_total, place_cmp_exact}

pub place_eq-same : (p q : Place) → place_eq p q ≡ true → p ≡ q
unfolding place_eq
place_eq-same p q e = eq_by_cmp-same place_cmp_exact p q e

pub name_eq-same : (x y : Name) → name_eq x y ≡ true → x ≡ y
unfolding name_eq
name_eq-same x y e = eq_by_cmp-same name_cmp_exact x y e

pub place_eq-itself : (p : Place) → place_eq p p ≡ true
unfolding place_eq
place_eq-itself p = (eq_by_cmp_equiv place_cmp_total).refl p

pub name_eq-itself : (x : Name) → name_eq x x ≡ true
unfolding name_eq
name_eq-itself x = (eq_by_cmp_equiv name_cmp_total).refl x

module _ {X : Type 0} where
  pub get-set_place : (m : FinMap place_cmp X) (p : Place) (v : Option X) (q : Place) → get (set_key m p v) q ≡ cond (place_eq q p) v (get m q)
  unfolding place_eq
  get-set_place m p v q = get-set_key place_cmp_total m p v q

  pub get-set_name : (m : FinMap name_cmp X) (x : Name) (v : Option X) (y : Name) → get (set_key m x v) y ≡ cond (name_eq y x) v (get m y)
  unfolding name_eq
  get-set_name m x v y = get-set_key name_cmp_total m x v y

  pub same_places : (m n : FinMap place_cmp X) → ((q : Place) → get m q ≡ get n q) → m ≡ n
  same_places = same_map place_cmp_total place_cmp_exact

  pub same_names : (m n : FinMap name_cmp X) → ((y : Name) → get m y ≡ get n y) → m ≡ n
  same_names = same_map name_cmp_total name_cmp_exact

-- ---- the derived tests

pub name_eq-derived : (x y : Name) → pointwise nat_eq x y ≡ name_eq x y
name_eq-derived x y = both_ways (pointwise nat_eq x y) (name_eq x y)
    (λ e. ap (name_eq x) (sym ((bytes_decides x y).0 e)) ∙ name_eq-itself x)
    (λ e. ap (pointwise nat_eq x) (sym (name_eq-same x y e)) ∙ (bytes_decides x x).1 refl)

pub place_eq-derived : (p q : Place) → (nat_eq p.0 q.0 && nat_eq p.1 q.1) ≡ place_eq p q
place_eq-derived p q = both_ways (nat_eq p.0 q.0 && nat_eq p.1 q.1) (place_eq p q)
    (λ e.
    let a : p.0 ≡ q.0 = grind (arith, nat_tests) in
    let b : p.1 ≡ q.1 = grind (arith, nat_tests) in
    let same : p ≡ q = λ i. (a i, b i) in
    ap (place_eq p) (sym same) ∙ place_eq-itself p)
    (λ e. let same : p ≡ q = place_eq-same p q e in
    ap (λ (r : Place). nat_eq p.0 r.0 && nat_eq p.1 r.1) (sym same) ∙ grind (arith, nat_tests))
