-- Public keys of users, as bytes.
use Rattle.std.specs.Prelude.{ℕ, Bool, List, map, nat_eq}
use Rattle.std.specs.List.{list_any}
use Rattle.std.specs.Cmp.Lexicographic.{pointwise}
use Rattle.su_bytes.specs.Membership.{Membership}

-- the key is one of these
abbrev pub is_among : List (List ℕ) → List ℕ → Bool
is_among keys key = list_any (pointwise nat_eq key) keys

-- the keys of a roster's users
abbrev pub roster_keys : Membership → List (List ℕ)
roster_keys ro = map (λ u. u.1) ro.users
