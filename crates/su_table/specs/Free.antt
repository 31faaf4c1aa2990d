-- Free and taken numbers of a principal's table. (This project's own: SUNDR leaves the choice of i-numbers to clients.)
use Rattle.std.specs.Prelude.{◌≡◌, ◌<◌, ◌≤◌, ◌+◌, ◌*◌, ℕ, Bool, true, false, not, List, is_some, IsTrue, Option, Some, None, get_or}
use Rattle.std.specs.Ordering.{nat_cmp}
use Rattle.std.specs.FinMap.Entries.{find}
use Rattle.su_bytes.specs.FileId.{is_inum}
use Rattle.su_table.specs.declared.table.TheConstants.{BLOCK}

-- The least number from `from` on that passes a test; none where none from there to the last does.
abbrev pub IsLeast : (ℕ → Bool) → ℕ → Option ℕ → Type 0
IsLeast passes from (Some n) =
    (from ≤ n) × IsTrue (is_inum n) × (passes n ≡ true)
    × ((m : ℕ) → from ≤ m → m < n → passes m ≡ false)
IsLeast passes from None = (m : ℕ) → from ≤ m → IsTrue (is_inum m) → passes m ≡ false

-- The least free number from `from` on; none where each one from there to the last is taken.
abbrev pub IsLeastFree : (ℕ → Bool) → ℕ → Option ℕ → Type 0
IsLeastFree free = IsLeast free

-- The least taken number from `from` on; none where each one from there to the last is free.
abbrev pub IsLeastTaken : (ℕ → Bool) → ℕ → Option ℕ → Type 0
IsLeastTaken free = IsLeast (λ n. not (free n))

-- the table has nothing at the number
abbrev pub has_none : {V : Type 0} → List (ℕ × V) → ℕ → Bool
has_none pairs n = not (is_some (find nat_cmp n pairs))

-- From n on up to m, m itself not counted, the table has each number.
abbrev pub HasAll : {V : Type 0} → List (ℕ × V) → ℕ → ℕ → Type 0
HasAll pairs n m = (k : ℕ) → n ≤ k → k < m → has_none pairs k ≡ false

-- Numbers come in blocks, the first from 1 on. Of each block so many from its first one on are in
-- the table.
pub record AreFronts {V : Type 0} (pairs : List (ℕ × V)) (fronts : List ℕ) : Type 0 where
  pub within : (block : ℕ) → get_or fronts block 0 ≤ BLOCK
  pub there : (block : ℕ) → HasAll pairs (block * BLOCK + 1) (block * BLOCK + 1 + get_or fronts block 0)
