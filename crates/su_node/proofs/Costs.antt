-- Costs by the block, added up.
use Rattle.std.proofs.Common.{◌≡◌, ℕ, ◌+◌, ◌*◌, ◌≤◌, ap, arith}
use Rattle.std.proofs.Math.Nat.{mul-le-mul_left}

-- what two changes cost together
pub cost_both : (per n m k a b made : ℕ) → k ≡ n + m → a ≤ per * n → b ≤ per * m → made ≤ a + b → made ≤ per * k
cost_both per n m k a b made e p q le = omega (arith, ap (λ x. per * x) e)

-- what fewer blocks cost
pub cost_less : (per n k made : ℕ) → n ≤ k → made ≤ per * n → made ≤ per * k
cost_less per n k made le p = omega (arith, mul-le-mul_left per le)
