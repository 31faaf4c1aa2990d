-- Sets of keys: which keys one has, and whether it has room for one more.
use Rattle.std.specs.Prelude.{◌≡◌, ◌<◌, ℕ, List, nat_eq}
use Rattle.std.specs.Cmp.Lexicographic.{pointwise}
use Rattle.std.specs.HashSet.{contains, spare}
use Rattle.su_bytes.specs.Keys.{is_among}
use Rattle.su_used_keys.specs.declared.used.UsedKeys.{UsedKeys}

-- the set has just these keys
unfoldable pub HasJust : List (List ℕ) → UsedKeys → Type 0
HasJust keys used = (key : List ℕ) → contains (pointwise nat_eq) used.keys key ≡ is_among keys key

-- one more key can be added without memory
unfoldable pub HasRoom : UsedKeys → Type 0
HasRoom used = 0 < spare used.keys
