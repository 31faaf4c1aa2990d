-- A desk whose store has nothing to give.
use Rattle.std.specs.Prelude.{ℕ, List, Contains}
use Rattle.su_block.specs.Memory.{Memory}
use Rattle.su_stored_desk.specs.Asked.{GivesOnly, TrialOn}

-- its store in memory gives nothing, and so it was each time that it was asked
abbrev pub IsQuiet : TrialOn Memory → Type 0
IsQuiet = GivesOnly (λ (m : Memory) (i : List ℕ). Contains m.items i) (λ i. ⊥)
