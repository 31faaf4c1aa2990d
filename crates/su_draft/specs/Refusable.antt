-- Answers that may be refusals, and steps one after another: the first refusal is that of the
-- whole.
use Rattle.std.specs.Prelude.{◌≡◌, ◌⊎◌, Result, Ok, Err}
use Rattle.su_bytes.specs.declared.refusals.Refusal.{Refusal}
use Rattle.su_bytes.specs.declared.refusals.Refusal.TheVariants.{NoMemory}

-- a step, and then another, which may depend on what the first one gave
infixl 10 ◌>>=◌
abbrev pub ◌>>=◌ : {A B : Type 0} → Result A Refusal → (A → Result B Refusal) → Result B Refusal
(Ok x) >>= f = f x
(Err e) >>= f = Err e

-- What was returned, seen by view, is this answer, unless memory was refused.
abbrev pub Gives : {X Y : Type 0}
    → (X → Y) → Result X Refusal → Result Y Refusal → Type 0
Gives view (Ok x) answer = answer ≡ Ok (view x)
Gives view (Err e) answer = (e ≡ NoMemory) ⊎ (answer ≡ Err e)
