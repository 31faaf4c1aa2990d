-- The ports of a command line.
use Rattle.std.specs.Prelude.{ℕ, ◌≤◌}

-- a port that can be listened on, or connected to
abbrev pub IsPort : ℕ → Type 0
IsPort n = (1 ≤ n) × (n ≤ 65535)
