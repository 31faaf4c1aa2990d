-- How much waits.
use Rattle.std.proofs.Common.{◌≡◌, refl, ℕ, ◌+◌, ◌<◌, ◌≤◌, ◌==◌, inl, inr, Bool, true, false, cond, List, length, Some, None, nat_lt, arith}
use Rattle.std.proofs.lemmas.Bool.Decides.{nat_tests}
use Rattle.su_bytes.specs.declared.refusals.Refusal.TheVariants.{Malformed, TooLong}
use Rattle.su_frames.specs.Stream.{next_length, length_fault, IsPartial}

good_length : (n : ℕ) (zero_is long_is : Bool) → (n == 0) ≡ zero_is → nat_lt 131072 n ≡ long_is → cond zero_is (Some (Malformed 0)) (cond long_is (Some TooLong) None) ≡ None → n ≤ 131072
good_length n true b e f g = absurd cc
good_length n false true e f g = absurd cc
good_length n false false e f g = grind (arith, nat_tests)

short_or_good : (len n : ℕ) (b : Bool) → nat_lt len 4 ≡ b → cond b None (length_fault n) ≡ None → len < 4 + n → len < 131076
short_or_good len n true e f lt = let less : len < 4 = grind (arith, nat_tests) in omega (arith, less)
short_or_good len n false e f lt = omega (arith, lt, good_length n (n == 0) (nat_lt 131072 n) refl refl f)

-- less than a whole message is less than the longest with its length
pub partial_short : (bytes : List ℕ) → IsPartial bytes → length bytes < 131076
partial_short bytes (f, inl short) = omega (arith, short)
partial_short bytes (f, inr short) = short_or_good (length bytes) (next_length bytes) (nat_lt (length bytes) 4) refl f short
