-- A key that a reader has.
use Rattle.std.proofs.Common.{◌≡◌, ℕ, zero, suc, ◌<◌, List, [], ◌∷◌, length, take, refl, ap, arith}

-- where fewer were taken than might be, all were
pub all_taken : (n : ℕ) (xs : List ℕ) → length (take n xs) < n → take n xs ≡ xs
all_taken zero xs short = absurd (omega (arith, short))
all_taken (suc n) [] short = refl
all_taken (suc n) (x ∷ xs) short = ap (λ l. x ∷ l) (all_taken n xs (omega (arith, short)))
