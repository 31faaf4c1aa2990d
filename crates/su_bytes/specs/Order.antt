-- Checks that are made in an order: the first that fails is the one that refuses.
use Rattle.std.specs.Prelude.{◌≡◌, ◌⊎◌, List, [], ◌∷◌}

-- a line of an order: what has to hold, and how it is refused where it doesn't
pub record Line (E : Type 0) : Type 1 where
  pub holds : Type 0
  pub refusal : E → Type 0

-- the line of a condition that has one refusal
abbrev pub demand : {E : Type 0} → Type 0 → E → Line E
demand holds e = record { holds = holds; refusal = λ refusal. refusal ≡ e }

-- what all lines ask holds
abbrev pub Passes : {E : Type 0} → List (Line E) → Type 0
Passes [] = Unit {0}
Passes (line ∷ lines) = line.holds × Passes lines

-- the first line that doesn't hold refuses so
abbrev pub RefusedBy : {E : Type 0} → List (Line E) → E → Type 0
RefusedBy [] e = ⊥
RefusedBy (line ∷ lines) e =
    (line.refusal e × (line.holds → ⊥)) ⊎ (line.holds × RefusedBy lines e)
