-- A user's next key, in bytes.
use Rattle.std.specs.Prelude.{◌≡◌, ℕ, List, length}
use Rattle.su_bytes.specs.declared.rosters.TheConstants.{KEY_LENGTH}
use Rattle.su_op.specs.declared.operations.Change.{Change}
use Rattle.su_op.specs.declared.operations.Change.TheVariants.{Rekey}
use Rattle.su_format.specs.Format.{Format, making, ◌>>=◌}
use Rattle.su_format.specs.Part.{bytes_part}

-- as many bytes as a key has
abbrev pub IsKey : List ℕ → Type 0
IsKey k = length k ≡ KEY_LENGTH

-- its part, and the change that it makes
unfoldable pub rekey_fields : Format Change
rekey_fields = do
  key ← bytes_part KEY_LENGTH
  making (Rekey key)
