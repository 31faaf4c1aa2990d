-- What a report tells, and how many workers there may be.
use Rattle.std.specs.Prelude.{ℕ, ◌≤◌}

-- some link was served so, by some service of the type
abbrev pub RanSo : {L S Served : Type 0} → (L → S → Served → S → Type 0) → Served → Type 0
RanSo {L} {S} runs served = (link : L) × (s : S) × (t : S) × runs link s served t

-- so many workers there may be
abbrev pub IsWorkerCount : ℕ → Type 0
IsWorkerCount n = (1 ≤ n) × (n ≤ 16)
