-- What holds of each of the four widths.
use Rattle.std.proofs.Common.{◌≡◌, ℕ, ◌+◌, ◌-◌, ◌*◌, ◌/◌, ◌%◌, ◌^◌, ◌≤◌, ◌<◌, List, subst, inl, inr, arith, sym, ap, ◌∙◌}
use Rattle.std.proofs.lemmas.Bool.{cases_eq}
use Rattle.su_lms.specs.ParameterSets.{width_of, chain_count, checksum_shift}
use Rattle.su_lms.specs.Strings.{coef, sum_below}
use Rattle.su_lms.specs.OneTime.{checksum}
use Rattle.su_lms.proofs.Joining.{sum_below_le}

-- a fact that holds of the types 1 to 4 holds of each listed type
pub by_type : (P : ℕ → Type 0) → P 1 → P 2 → P 3 → P 4 → (ots : ℕ) → 1 ≤ ots → ots ≤ 4 → P ots
by_type P one two three four ots low high =
    elim (cases_eq ots 1) [
      | inl is ↦ subst P (sym is) one
      | inr not_one ↦ elim (cases_eq ots 2) [
        | inl is ↦ subst P (sym is) two
        | inr not_two ↦ elim (cases_eq ots 3) [
          | inl is ↦ subst P (sym is) three
          | inr not_three ↦ (let is : ots ≡ 4 = omega arith in subst P (sym is) four)
        ]
      ]
    ]

pub width_bounds : (ots : ℕ) → 1 ≤ ots → ots ≤ 4 → (1 ≤ width_of ots) × (width_of ots ≤ 8)
unfolding width_of
width_bounds = by_type (λ ots. (1 ≤ width_of ots) × (width_of ots ≤ 8)) (omega arith, omega arith) (omega arith, omega arith) (omega arith, omega arith) (omega arith, omega arith)

-- a coefficient lies within its byte
pub coefficient_fits : (ots : ℕ) → 1 ≤ ots → ots ≤ 4 → (i : ℕ) → width_of ots * (i % (8 / width_of ots)) + width_of ots ≤ 8
unfolding width_of
coefficient_fits = by_type (λ ots. (i : ℕ) → width_of ots * (i % (8 / width_of ots)) + width_of ots ≤ 8) (λ i. omega arith) (λ i. omega arith) (λ i. omega arith) (λ i. omega arith)

-- the chains of a key take their coefficients from 34 bytes
pub digits_suffice : (ots : ℕ) → 1 ≤ ots → ots ≤ 4 → (i : ℕ) → i < chain_count ots → i * width_of ots / 8 < 34
unfolding width_of chain_count
digits_suffice = by_type (λ ots. (i : ℕ) → i < chain_count ots → i * width_of ots / 8 < 34) (λ i h. omega arith) (λ i h. omega arith) (λ i h. omega arith) (λ i h. omega arith)

-- the coefficients of a hash lie in its 32 bytes
pub hash_suffices : (ots : ℕ) → 1 ≤ ots → ots ≤ 4 → (i : ℕ) → i < 256 / width_of ots → i * width_of ots / 8 < 32
unfolding width_of
hash_suffices = by_type (λ ots. (i : ℕ) → i < 256 / width_of ots → i * width_of ots / 8 < 32) (λ i h. omega arith) (λ i h. omega arith) (λ i h. omega arith) (λ i h. omega arith)

-- a checksum fits 16 bits
pub checksum_fits : (ots : ℕ) → 1 ≤ ots → ots ≤ 4 → (sum : ℕ) → sum ≤ 256 / width_of ots * (2 ^ width_of ots - 1) → sum * 2 ^ checksum_shift ots < 2 ^ 16
unfolding width_of checksum_shift
checksum_fits = by_type (λ ots. (sum : ℕ) → sum ≤ 256 / width_of ots * (2 ^ width_of ots - 1) → sum * 2 ^ checksum_shift ots < 2 ^ 16) (λ s h. omega arith) (λ s h. omega arith) (λ s h. omega arith) (λ s h. omega arith)

pub width_divides : (ots : ℕ) → 1 ≤ ots → ots ≤ 4 → 1 ≤ 8 / width_of ots
unfolding width_of
width_divides = by_type (λ ots. 1 ≤ 8 / width_of ots) (omega arith) (omega arith) (omega arith) (omega arith)

pub steps_bounds : (ots : ℕ) → 1 ≤ ots → ots ≤ 4 → (1 ≤ 2 ^ width_of ots - 1) × (2 ^ width_of ots - 1 ≤ 255)
unfolding width_of
steps_bounds = by_type (λ ots. (1 ≤ 2 ^ width_of ots - 1) × (2 ^ width_of ots - 1 ≤ 255)) (omega arith, omega arith) (omega arith, omega arith) (omega arith, omega arith) (omega arith, omega arith)

pub chain_count_bounds : (ots : ℕ) → 1 ≤ ots → ots ≤ 4 → (34 ≤ chain_count ots) × (chain_count ots ≤ 265)
unfolding chain_count
chain_count_bounds = by_type (λ ots. (34 ≤ chain_count ots) × (chain_count ots ≤ 265)) (omega arith, omega arith) (omega arith, omega arith) (omega arith, omega arith) (omega arith, omega arith)

-- the product with a width
pub width_times : (ots : ℕ) → 1 ≤ ots → ots ≤ 4 → (i : ℕ) → i * width_of ots ≤ 8 * i
unfolding width_of
width_times = by_type (λ ots. (i : ℕ) → i * width_of ots ≤ 8 * i) (λ i. omega arith) (λ i. omega arith) (λ i. omega arith) (λ i. omega arith)

-- the sum over all coefficients of a hash, shifted, is the checksum, and fits 16 bits
pub checksum_shifted : (ots : ℕ) (hash : List ℕ) → 1 ≤ ots → ots ≤ 4 → (n sum shift : ℕ) → n ≡ 256 / width_of ots → sum ≡ sum_below n (λ i. 2 ^ width_of ots - 1 - coef hash i (width_of ots)) → shift ≡ checksum_shift ots → (sum * 2 ^ shift ≡ checksum ots hash) × (sum * 2 ^ shift < 2 ^ 16)
unfolding checksum
checksum_shifted ots hash low high n sum shift all is shifts =
    let number : ℕ → ℕ = λ i. 2 ^ width_of ots - 1 - coef hash i (width_of ots) in
    let whole : sum ≡ sum_below (256 / width_of ots) number = is ∙ ap (λ k. sum_below k number) all in
    let small : sum ≤ 256 / width_of ots * (2 ^ width_of ots - 1) = rw whole (sum_below_le (256 / width_of ots) number (2 ^ width_of ots - 1) (λ i. omega arith)) in (
      ap (λ s. s * 2 ^ shift) whole ∙ ap (λ k. sum_below (256 / width_of ots) number * 2 ^ k) shifts,
      rw shifts (checksum_fits ots low high sum small),
    )
