-- What a source tells of the calls in which it failed.
use Rattle.std.specs.Prelude.{ℕ, ◌+◌, ◌-◌, ◌^◌, Bool, true, false, min, cond, List, Some, Result, Ok, Err}
use Rattle.su_bytes.specs.declared.refusals.Refusal.{Refusal}
use Rattle.su_bytes.specs.declared.refusals.Refusal.TheVariants.{MissingBlock, WrongBlock, SourceFailed}
use Rattle.su_block.specs.declared.failures.Failures.{Failures}

-- the refusals that are the source's fault: it has no such item, gave another one, or couldn't be
-- asked
abbrev pub is_failure : Refusal → Bool
is_failure MissingBlock = true
is_failure WrongBlock = true
is_failure SourceFailed = true
is_failure _ = false

-- one failure more, of a call that was about this digest; the count stays at its last value
abbrev pub one_more : Failures → List ℕ → Failures
one_more f digest = record { count = min (f.count + 1) (2 ^ 64 - 1); last = Some digest }

-- after a call about this digest that was so answered
abbrev pub failures_after : {A : Type 0} → Result A Refusal → List ℕ → Failures → Failures
failures_after (Ok _) digest f = f
failures_after (Err e) digest f = cond (is_failure e) (one_more f digest) f
