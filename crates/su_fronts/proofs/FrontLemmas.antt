-- Fronts of blocks, as numbers are taken and freed.
use Rattle.std.proofs.Common.{◌≡◌, ◌≢◌, sym, ap, refl, subst, ℕ, ◌+◌, ◌-◌, ◌*◌, ◌/◌, ◌%◌, ◌<◌, ◌≤◌, Bool, true, false, nat_eq, List, length, set, get_or, arith}
use Rattle.std.proofs.lemmas.Bool.{eqb-true}
use Rattle.std.proofs.lemmas.Bool.Decides.{nat_tests}
use Rattle.std.proofs.lemmas.List.{get_or-set_same, get_or-set_other}
use Rattle.std.proofs.lemmas.Nat.{div-add-mod'}
use Rattle.su_fronts.specs.Front.{AreTaken, AreFronts, IsNoFreer}
use Rattle.su_fronts.specs.declared.fronts.Fronts.{Fronts}

-- what holds of each front that is kept, after one was set
at_each : (P : ℕ → ℕ → Type 0) (fs : List ℕ) (b f c : ℕ) → b < length fs → P b f → (c ≢ b → P c (get_or fs c 0)) → P c (get_or (set fs b f) c 0)
at_each P fs b f c within new old = elim (nat_eq c b) as (λ x. nat_eq c b ≡ x → P c (get_or (set fs b f) c 0)) [
  | true ↦ λ e. subst (λ i. P i (get_or (set fs b f) i 0)) (sym (eqb-true c b e)) (subst (P b) (sym (get_or-set_same fs b f 0 within)) new)
  | false ↦ λ e. let other : c ≢ b = grind (arith, nat_tests) in subst (P c) (sym (get_or-set_other fs b c f 0 other)) (old other)
] refl

-- a number may be free, and the front of its block ends before it
pub front_cut : (free now : ℕ → Bool) (f g : Fronts) (n x : ℕ) → g.fronts.items ≡ set f.fronts.items ((n - 1) / 1024) x → 1 ≤ n → (n - 1) / 1024 < length f.fronts.items
    → x ≤ get_or f.fronts.items ((n - 1) / 1024) 0 → x ≤ (n - 1) % 1024 → IsNoFreer n free now → AreFronts free f → AreFronts now g
front_cut free now f g n x is positive inside less before no_freer are =
    let fs = f.fronts.items in
    let b = (n - 1) / 1024 in
    let whole = div-add-mod' (n - 1) 1024 in
    let small : (n - 1) % 1024 < 1024 = omega arith in
    record {
      within = λ c. subst (λ xs. get_or xs c 0 ≤ 1024) (sym is) (at_each (λ i y. y ≤ 1024) fs b x c inside (let w = are.within b in omega (arith, w, less)) (λ other. are.within c));
      taken = λ c. subst (λ xs. AreTaken now (c * 1024 + 1) (c * 1024 + 1 + get_or xs c 0)) (sym is)
          (at_each (λ i y. AreTaken now (i * 1024 + 1) (i * 1024 + 1 + y)) fs b x c inside
          (λ k from to. no_freer k (λ same. omega (arith, same, to, before, whole, positive)) (are.taken b k from (omega (arith, to, less))))
          (λ other k from to. no_freer k (λ same. other (let w = are.within c in omega (arith, same, from, to, w, whole, small, positive))) (are.taken c k from to)));
    }

-- a number may be free in a block of which nothing is known
pub front_none : (free now : ℕ → Bool) (f g : Fronts) (n : ℕ) → g.fronts.items ≡ f.fronts.items → 1 ≤ n → get_or f.fronts.items ((n - 1) / 1024) 0 ≡ 0 → IsNoFreer n free now → AreFronts free f → AreFronts now g
front_none free now f g n is positive none no_freer are =
    let b = (n - 1) / 1024 in
    let whole = div-add-mod' (n - 1) 1024 in
    let small : (n - 1) % 1024 < 1024 = omega arith in
    record {
      within = λ c. subst (λ xs. get_or xs c 0 ≤ 1024) (sym is) (are.within c);
      taken = λ c. subst (λ xs. AreTaken now (c * 1024 + 1) (c * 1024 + 1 + get_or xs c 0)) (sym is)
          (λ k from to. no_freer k
          (λ same. let w = are.within c in
          let here : c ≡ b = omega (arith, same, from, to, w, whole, small, positive) in
          omega (arith, from, to, ap (λ i. get_or f.fronts.items i 0) here, none))
          (are.taken c k from to));
    }
