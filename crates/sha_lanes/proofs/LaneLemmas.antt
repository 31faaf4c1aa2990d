-- What stands in the lanes of vectors that are computed lane by lane.
use Rattle.std.proofs.Common.{◌≡◌, ℕ, zero, suc, ◌*◌, ◌/◌, ◌%◌, ◌^◌, ◌<◌, List, [], length, slice_index, slice_index_or, map, replicate, bit_or, Fits, w32, refl, sym, ap₂, ◌∙◌, arith}
use Rattle.std.proofs.Math.ListN.{get_or-map}
use Rattle.std.specs.Simd.Lanes.{zip2, Each1}
use Rattle.std.proofs.lemmas.Simd.{Each1-get_or, length-zip2, get_or-zip2, length-replicate, get_or-replicate}

-- word k of lane l is lane l of vector k
pub word_of_lane : (x : List (List ℕ)) (l k : ℕ) → slice_index (map (λ v. slice_index v l) x) k ≡ slice_index (slice_index_or x k []) l
word_of_lane x l k = get_or-map (λ v. slice_index v l) x k []

-- the vector has eight lanes, and f tells what stands in each
pub record Reads (xs : List ℕ) (f : ℕ → ℕ) : Type 0 where
  pub size : length xs ≡ 8
  pub lane : (l : ℕ) → l < 8 → slice_index xs l ≡ f l

pub reads_itself : (xs : List ℕ) → length xs ≡ 8 → Reads xs (λ l. slice_index xs l)
reads_itself xs size = record { size = size; lane = λ l low. refl }

pub reads_splat : (n : ℕ) → Reads (replicate 8 n) (λ l. n)
reads_splat n = record { size = length-replicate 8 n; lane = λ l low. get_or-replicate 8 l n 0 low }

pub reads_op : (op : ℕ → ℕ → ℕ) {xs ys : List ℕ} {f g : ℕ → ℕ} → Reads xs f → Reads ys g → Reads (zip2 op xs ys) (λ l. op (f l) (g l))
reads_op op {xs} {ys} x y = record {
  size = length-zip2 op xs ys (x.size ∙ sym y.size) ∙ x.size;
  lane = λ l low. get_or-zip2 op xs ys l 0 0 0 (omega (arith, x.size)) (omega (arith, y.size)) ∙ ap₂ op (x.lane l low) (y.lane l low);
}

-- a shift to the right
pub reads_shifted : (n : ℕ) {xs : List ℕ} {f : ℕ → ℕ} → Reads xs f → Reads (zip2 (λ x k. x / 2 ^ k) xs (replicate 8 n)) (λ l. f l / 2 ^ n)
reads_shifted n x = reads_op (λ x k. x / 2 ^ k) x (reads_splat n)

-- two shifts and an or
pub reads_rotated : (right left : ℕ) {xs : List ℕ} {f : ℕ → ℕ} → Reads xs f
    → Reads (zip2 bit_or (zip2 (λ x k. x / 2 ^ k) xs (replicate 8 right)) (zip2 (λ x k. x * 2 ^ k % 2 ^ 32) xs (replicate 8 left)))
    (λ l. bit_or (f l / 2 ^ right) (f l * 2 ^ left % 2 ^ 32))
reads_rotated right left x = reads_op bit_or (reads_shifted right x) (reads_op (λ x k. x * 2 ^ k % 2 ^ 32) x (reads_splat left))

pub lane_lt : (xs : List ℕ) → (length xs ≡ 8) × Each1 (Fits w32) xs → (l : ℕ) → l < 8 → slice_index xs l < 2 ^ 32
lane_lt xs fits l low = (Each1-get_or (Fits w32) xs l 0 (omega (arith, fits.0)) fits.1).fits

-- what holds of each of the eight lanes
pub below_eight : (P : ℕ → Type 0) → P 0 → P 1 → P 2 → P 3 → P 4 → P 5 → P 6 → P 7 → (l : ℕ) → l < 8 → P l
below_eight P a b c d e f g h zero low = a
below_eight P a b c d e f g h (suc zero) low = b
below_eight P a b c d e f g h (suc (suc zero)) low = c
below_eight P a b c d e f g h (suc (suc (suc zero))) low = d
below_eight P a b c d e f g h (suc (suc (suc (suc zero)))) low = e
below_eight P a b c d e f g h (suc (suc (suc (suc (suc zero))))) low = f
below_eight P a b c d e f g h (suc (suc (suc (suc (suc (suc zero)))))) low = g
below_eight P a b c d e f g h (suc (suc (suc (suc (suc (suc (suc zero))))))) low = h
below_eight P a b c d e f g h (suc (suc (suc (suc (suc (suc (suc (suc n)))))))) low = absurd (omega arith)

-- a shift to the left
pub reads_raised : (n : ℕ) {xs : List ℕ} {f : ℕ → ℕ} → Reads xs f → Reads (zip2 (λ x k. x * 2 ^ k % 2 ^ 32) xs (replicate 8 n)) (λ l. f l * 2 ^ n % 2 ^ 32)
reads_raised n x = reads_op (λ x k. x * 2 ^ k % 2 ^ 32) x (reads_splat n)
