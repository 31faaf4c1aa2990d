-- Keys with what they are to hold. (This project's own.)
use Rattle.std.specs.Prelude.{ℕ, List, map}
use Rattle.su_engine.specs.declared.engines.Pair.{Pair}

-- the bytes of each pair
abbrev pub pairs_of : List Pair → List (List ℕ × List ℕ)
pairs_of pairs = map (λ pair. (pair.key.items, pair.value.items)) pairs
