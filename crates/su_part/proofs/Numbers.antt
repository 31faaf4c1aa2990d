-- What a map keeps at numbers, after a value was put at one of them.
use Rattle.std.proofs.Common.{◌≡◌, ℕ, Bool, true, false, cond, List, Option, refl, sym, subst, arith}
use Rattle.std.specs.Map.{lookup}
use Rattle.std.specs.BTreeMap.{is_at}
use Rattle.std.specs.Ordering.{nat_cmp}
use Rattle.std.proofs.lemmas.Bool.Decides.{nat_tests}

pub same_number : (k q : ℕ) → is_at (nat_cmp k) q ≡ true → k ≡ q
same_number k q h = grind (arith, nat_tests, h)

pub at_itself : (n : ℕ) → is_at (nat_cmp n) n ≡ true
at_itself n = grind (arith, nat_tests)

abbrev pub found_at : {X : Type 0} → List (ℕ × X) → ℕ → Option X
found_at es n = lookup (is_at (nat_cmp n)) es

-- what holds of the values before, and of the new one at its number, holds of the values after
pub updated : {X : Type 0} (P : ℕ → Option X → Type 0) (es fs : List (ℕ × X)) (k : ℕ) (v : Option X)
    → ((q : ℕ) → found_at fs q ≡ cond (is_at (nat_cmp k) q) v (found_at es q)) → ((q : ℕ) → P q (found_at es q)) → P k v → (q : ℕ) → P q (found_at fs q)
updated P es fs k v updates old new q = subst (P q) (sym (updates q)) (go (is_at (nat_cmp k) q) refl)
  where
    go : (b : Bool) → is_at (nat_cmp k) q ≡ b → P q (cond b v (found_at es q))
    go true e = subst (λ n. P n v) (same_number k q e) new
    go false e = old q
