-- A batch in bytes: operations, one after another, that one change makes together.
use Rattle.std.specs.Prelude.{◌≤◌, ℕ, List, length, ◌++◌}
use Rattle.std.specs.List.{flat_map, AllByRecursion}
use Rattle.su_op.specs.declared.operations.Op.{Op}
use Rattle.su_op.specs.declared.operations.Change.{Change}
use Rattle.su_op.specs.declared.operations.Change.TheVariants.{Do}
use Rattle.su_format.specs.Format.{Format, part, making, ◌>>=◌, repeated}
use Rattle.su_format.specs.Part.{u16_bytes}
use Rattle.su_change.specs.Operation.{CanBeSpelled, op_bytes, op_format}
use Rattle.su_change.specs.declared.batch.TheConstants.{MOST_OPERATIONS}

-- operations of one change
abbrev pub most_operations : ℕ
most_operations = MOST_OPERATIONS

-- the operations of a change can be spelled: there is one at least and there are 256 at most, and
-- each can be spelled
pub record CanAllBeSpelled (ops : List Op) : Type 0 where
  pub some : 1 ≤ length ops
  pub few : length ops ≤ most_operations
  pub each : AllByRecursion CanBeSpelled ops

-- a change may have so many operations that are spelled as a batch: 2 to 256, as one alone is
-- spelled without
abbrev pub IsCount : ℕ → Type 0
IsCount n = (2 ≤ n) × (n ≤ most_operations)

-- how many operations there are, and these
abbrev pub batch_bytes : List Op → List ℕ
batch_bytes ops = u16_bytes (length ops) ++ flat_map op_bytes ops

-- how many operations there are, as a part
unfoldable pub count_part : Format ℕ
count_part = part IsCount u16_bytes

-- so many operations, one after another
unfoldable pub ops_format : ℕ → Format (List Op)
ops_format count = repeated (λ _. op_format) (λ _. 0) count 0

-- how many operations there are, and these
unfoldable pub batch_format : Format (List Op)
batch_format = do
  count ← count_part
  ops_format count

-- the field of a change that is a batch, and the change that it makes
unfoldable pub batch_fields : Format Change
batch_fields = do
  ops ← batch_format
  making (Do ops)
