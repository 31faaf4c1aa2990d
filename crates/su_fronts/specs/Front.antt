-- Taken numbers at the front of each block of an i-table. (This project's own: SUNDR leaves the
-- choice of i-numbers to clients.)
use Rattle.std.specs.Prelude.{◌≡◌, ◌≢◌, ◌<◌, ◌≤◌, ◌+◌, ◌*◌, ℕ, Bool, false, get_or}
use Rattle.su_fronts.specs.declared.fronts.TheConstants.{BLOCK}
use Rattle.su_fronts.specs.declared.fronts.Fronts.{Fronts}

-- from n on up to m, m itself not counted, no number is free
abbrev pub AreTaken : (ℕ → Bool) → ℕ → ℕ → Type 0
AreTaken free n m = (k : ℕ) → n ≤ k → k < m → free k ≡ false

-- of each block so many numbers from its first one on are taken
pub record AreFronts (free : ℕ → Bool) (f : Fronts) : Type 0 where
  pub within : (block : ℕ) → get_or f.fronts.items block 0 ≤ BLOCK
  pub taken : (block : ℕ) → AreTaken free (block * BLOCK + 1)
      (block * BLOCK + 1 + get_or f.fronts.items block 0)

-- but for the number n no number is free now that wasn't
abbrev pub IsNoFreer : ℕ → (ℕ → Bool) → (ℕ → Bool) → Type 0
IsNoFreer n free now = (k : ℕ) → k ≢ n → free k ≡ false → now k ≡ false
