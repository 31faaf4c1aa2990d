-- Free numbers of i-tables.
use Rattle.std.specs.Prelude.{ℕ, ◌+◌, ◌-◌, Bool, Option, Result}
use Rattle.std.specs.List.{find, range_with_len}
use Rattle.std.specs.Option.{ok_or}
use Rattle.su_bytes.specs.declared.file_ids.FileId.TheVariants.{Group}
use Rattle.su_bytes.specs.declared.refusals.Refusal.{Refusal}
use Rattle.su_bytes.specs.declared.refusals.Refusal.TheVariants.{BadNumber}
use Rattle.su_table.specs.Tree.{Tree}
use Rattle.su_table.specs.Query.{is_free_at, is_pointer_free}

-- the last number of an i-table
abbrev pub last_number : ℕ
last_number = 1000000

-- the least number that is free, from `from` to the last one
unfoldable pub least_free : (ℕ → Bool) → ℕ → Option ℕ
least_free free from = find free (range_with_len from (last_number + 1 - from))

-- the least free number of user a's table above `used`; `BadNumber` where none is free
unfoldable pub free_body : Tree → ℕ → ℕ → Result ℕ Refusal
free_body T a used = ok_or (least_free (λ i. is_free_at T (a, i)) (used + 1)) BadNumber

-- the least free number of group g's table; `BadNumber` where none is free
unfoldable pub free_group_number : Tree → ℕ → Result ℕ Refusal
free_group_number T g = ok_or (least_free (λ k. is_pointer_free T (Group g k)) 1) BadNumber
