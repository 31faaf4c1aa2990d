-- How the map from paths to numbers is kept: in the order of the paths.
use Rattle.std.specs.Prelude.{ℕ, List, T, map}
use Rattle.std.specs.Cmp.Lexicographic.{slice_cmp}
use Rattle.std.specs.FinMap.{from_sorted, is_sorted}
use Rattle.std.specs.Global.{Vec}
use Rattle.std.specs.Ordering.{nat_cmp}
use Rattle.su_seen.specs.Seen.{Seen}

-- paths by their bytes
abbrev pub by_bytes : List (Vec ℕ × ℕ) → List (List ℕ × ℕ)
by_bytes kept = map (λ e. (e.0.items, e.1)) kept

abbrev pub AreSorted : List (Vec ℕ × ℕ) → Type 0
AreSorted kept = T (is_sorted (slice_cmp nat_cmp) (by_bytes kept))

-- the map of what is kept
abbrev pub seen_of : List (Vec ℕ × ℕ) → Seen
seen_of kept = from_sorted (by_bytes kept)
