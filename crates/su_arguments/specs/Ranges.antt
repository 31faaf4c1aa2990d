-- The ranges of the numbers of a command line.
use Rattle.std.specs.Prelude.{ℕ, ◌≤◌}

-- how many users there may be
abbrev pub IsUserCount : ℕ → Type 0
IsUserCount n = (1 ≤ n) × (n ≤ 64)

-- the number of a user
abbrev pub IsUser : ℕ → Type 0
IsUser n = n ≤ 63

-- how many workers a server may have
abbrev pub IsWorkerCount : ℕ → Type 0
IsWorkerCount n = (1 ≤ n) × (n ≤ 16)

-- how many commits a server may keep
abbrev pub IsCapacity : ℕ → Type 0
IsCapacity n = (1 ≤ n) × (n ≤ 1000000)

-- for how many seconds of its turn a session may be silent
abbrev pub IsTurnLimit : ℕ → Type 0
IsTurnLimit n = (1 ≤ n) × (n ≤ 3600)

-- for how many minutes a session without the turn may be silent
abbrev pub IsIdleLimit : ℕ → Type 0
IsIdleLimit n = (1 ≤ n) × (n ≤ 1440)

-- how many sessions a server may serve
abbrev pub IsSessionCount : ℕ → Type 0
IsSessionCount n = (1 ≤ n) × (n ≤ 1000000)

-- how many MiB of items a server may have in memory
abbrev pub IsCacheSize : ℕ → Type 0
IsCacheSize n = (1 ≤ n) × (n ≤ 1000000)

-- how often a client may ask for a turn
abbrev pub IsTryCount : ℕ → Type 0
IsTryCount n = (1 ≤ n) × (n ≤ 1000000)

-- how many signatures one write of a key file may serve
abbrev pub IsLeafCount : ℕ → Type 0
IsLeafCount n = (1 ≤ n) × (n ≤ 16)
