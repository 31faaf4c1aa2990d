-- A desk whose store has nothing to give, after calls that ask it.
use Rattle.std.specs.Prelude.{ℕ, List, Contains}
use Rattle.su_block.specs.Memory.{Memory}
use Rattle.su_stored_desk.specs.Asked.{Asks, IsClear, TrialOn}
use Rattle.su_stored_desk.proofs.Public.{gives_only, quiet_is_clear}
use Rattle.su_why.specs.Quiet.{IsQuiet}

-- the items that a store in memory may give
abbrev pub held : Memory → List ℕ → Type 0
held m i = Contains m.items i

-- it stays so
pub stays_quiet : {comes : Memory → Memory → Type 0} (t u : TrialOn Memory) → Asks held comes t u → IsQuiet t → IsQuiet u
stays_quiet t u asks quiet = gives_only (λ i. ⊥) t u asks quiet

-- and nothing was mixed up
pub quiet_clear : (t : TrialOn Memory) → IsQuiet t → IsClear held t
quiet_clear t quiet = quiet_is_clear held t quiet
