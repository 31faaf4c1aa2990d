-- What a file that was seen tells.
use Rattle.std.specs.Prelude.{◌≡◌, ℕ, List, Option, Some, None}
use Rattle.su_seen.specs.declared.lines.SeenFile.{SeenFile}

-- there is a file, with that number and that path
abbrev pub Tells : Option SeenFile → ℕ → List ℕ → Type 0
Tells None n path = ⊥
Tells (Some file) n path = (file.number ≡ n) × (file.path.items ≡ path)
