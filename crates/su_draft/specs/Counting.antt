-- Which numbers of their author's table the operations of a command use.
use Rattle.std.specs.Prelude.{ℕ, ◌+◌, List, [], ◌∷◌, Option, Some, None, unwrap_or}
use Rattle.su_table.specs.Free.{IsLeastFree}
use Rattle.su_table.specs.Tree.{Tree}
use Rattle.su_table.specs.Query.{is_free_at}
use Rattle.su_op.specs.declared.operations.Op.{Op}
use Rattle.su_op.specs.declared.operations.Op.TheVariants.{Create, Take}

-- the number at which it makes a body, if it makes one
abbrev pub number_used : Op → Option ℕ
number_used (Create c) = Some c.body
number_used (Take t) = Some t.body
number_used _ = None

-- the number is the least free one of user a's table above `used`
abbrev pub IsNext : Tree → ℕ → ℕ → Option ℕ → Type 0
IsNext T a used None = Unit {0}
IsNext T a used (Some n) = IsLeastFree (λ i. is_free_at T (a, i)) (used + 1) (Some n)

-- Operations of user a use the free numbers above `used`, one after another.
abbrev pub CountUp : Tree → ℕ → ℕ → List Op → Type 0
CountUp T a used [] = Unit {0}
CountUp T a used (op ∷ ops) =
    IsNext T a used (number_used op) × CountUp T a (unwrap_or (number_used op) used) ops
