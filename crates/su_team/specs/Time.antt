-- When a client took commits: eight bytes for each, the seconds of its clock.
use Rattle.std.specs.Prelude.{ℕ, ◌*◌, ◌-◌, ◌&&◌, if◌then◌else◌, List, length, take, drop, Option, Some, None, nat_le}
use Rattle.std.specs.Int.{from_be_bytes, to_be_bytes, w64}
use Rattle.std.specs.List.{flat_map}

-- each with the most significant byte first
abbrev pub times_bytes : List ℕ → List ℕ
times_bytes seconds = flat_map (to_be_bytes w64) seconds

-- The second of the commit with that number, from 1, if there is one.
abbrev pub time_at : List ℕ → ℕ → Option ℕ
time_at bytes n =
    if nat_le 1 n && nat_le (8 * n) (length bytes)
    then Some (from_be_bytes w64 (take 8 (drop (8 * (n - 1)) bytes)))
    else None
