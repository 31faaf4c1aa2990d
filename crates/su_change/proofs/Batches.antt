-- Batches in bytes: each has one spelling, which begins no other.
use Rattle.std.proofs.Common.{◌≡◌, ℕ, ◌<◌, ◌^◌, List, [], ◌∷◌, ◌++◌, length, refl, arith}
use Rattle.std.specs.List.{AllByRecursion}
use Rattle.su_op.specs.declared.operations.Op.{Op}
use Rattle.su_format.specs.Format.{part, EachFrom}
use Rattle.su_format.specs.Part.{u16_bytes, u16_part}
use Rattle.su_format.proofs.Public.{Makes, known_as, counted, part_makes, part_lawful, u16_lawful}
use Rattle.su_change.specs.Operation.{IsOp, CanBeSpelled}
use Rattle.su_change.specs.Batch.{IsCount, batch_bytes, count_part, ops_format, batch_format}
use Rattle.su_change.proofs.Operations.{Fits, op_of}

-- ---- how many operations there are

-- a count is spelled as a number is
pub count_is_u16 : (n : ℕ) → IsCount n → (n < 2 ^ 16) × (u16_bytes n ≡ u16_bytes n)
count_is_u16 n is = (omega (arith, is.0, is.1), refl)

pub u16_told : (a b : ℕ) (rest behind : List ℕ) → a < 2 ^ 16 → b < 2 ^ 16 → u16_bytes a ++ rest ≡ u16_bytes b ++ behind → (a ≡ b) × (rest ≡ behind)
unfolding u16_part part
u16_told a b rest behind small_a small_b e = u16_lawful.told (u16_bytes a ++ rest) a b rest behind (small_a, refl) (small_b, e)

count_of : Makes count_part (λ n. n) IsCount u16_bytes
unfolding count_part
count_of =
    part_makes (part_lawful IsCount u16_bytes (λ a b rest behind x y e. u16_told a b rest behind (count_is_u16 a x).0 (count_is_u16 b y).0 e))

-- ---- the operations

all_spelled : (s : ℕ) (ops : List Op) → EachFrom (λ _ op. Fits op) (λ _. 0) s ops → AllByRecursion IsOp ops × AllByRecursion CanBeSpelled ops
all_spelled s [] each = (tt, tt)
all_spelled s (op ∷ ops) (fits, more) = let others = all_spelled 0 ops more in ((fits.0, others.0), (fits.1, others.1))

each_fits : (s : ℕ) (ops : List Op) → AllByRecursion IsOp ops → AllByRecursion CanBeSpelled ops → EachFrom (λ _ op. Fits op) (λ _. 0) s ops
each_fits s [] is can = tt
each_fits s (op ∷ ops) (is, more) (can, others) = ((is, can), each_fits 0 ops more others)

-- operations of which there are enough for a batch, and not too many
pub record IsBatch (ops : List Op) : Type 0 where
  pub count : IsCount (length ops)
  pub are : AllByRecursion IsOp ops
  pub each : AllByRecursion CanBeSpelled ops

pub batch_of : Makes batch_format (λ ops. ops) IsBatch batch_bytes
unfolding batch_format ops_format
batch_of =
    known_as (counted (λ _. 0) (λ _. op_of) 0 count_of)
    (λ ops is. let all = all_spelled 0 ops is.1 in record { count = is.0; are = all.0; each = all.1 })
    (λ ops is. (is.count, each_fits 0 ops is.are is.each))
