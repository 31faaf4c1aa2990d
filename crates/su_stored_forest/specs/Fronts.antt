-- Fronts of the tables of all principals.
use Rattle.std.specs.Prelude.{◌≡◌, ◌≢◌, ℕ, Bool, false, List, IfSome, slice_get}
use Rattle.su_bytes.specs.Place.{Place}
use Rattle.su_fronts.specs.Front.{AreFronts}
use Rattle.su_fronts.specs.declared.fronts.Fronts.{Fronts}

-- of each principal's table the fronts are right, of which these numbers are free
abbrev pub AreAllFronts : (ℕ → ℕ → Bool) → List Fronts → Type 0
AreAllFronts free fs = (u : ℕ) → IfSome (slice_get fs u) (AreFronts (free u))

-- but for the number of that principal none is free now that wasn't
abbrev pub IsNoFreerBeside : Place → (ℕ → ℕ → Bool) → (ℕ → ℕ → Bool) → Type 0
IsNoFreerBeside p free now = (u k : ℕ) → (u, k) ≢ p → free u k ≡ false → now u k ≡ false
