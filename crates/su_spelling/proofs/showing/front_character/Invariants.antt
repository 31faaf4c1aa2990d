use Rattle.std.proofs.Common.{◌≡◌, ◌<◌, ◌≤◌, ℕ, false}
use Rattle.su_spelling.specs.Shown.{begins_text}
use Rattle.su_spelling.proofs.showing.front_character.Given as goal

-- no fewer bytes are a text
abbrev pub invariant-loop-len : goal.invariant-loop-len
invariant-loop-len l = (k : ℕ) → 1 ≤ k → k < l.len → begins_text l.bytes k ≡ false
