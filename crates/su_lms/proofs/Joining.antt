-- Strings one after another.
use Rattle.std.proofs.Common.{◌≡◌, ℕ, zero, suc, ◌+◌, ◌*◌, ◌≤◌, ◌<◌, List, [], ◌++◌, length, take, drop, refl, ap, sym, ◌∙◌, inl, inr, arith, add-one}
use Rattle.std.proofs.lemmas.List.{append_assoc, length-append, take_at, drop_at}
use Rattle.std.proofs.lemmas.Bool.{cases_lt}
use Rattle.sha2.specs.Sha256.{sha256}
use Rattle.su_lms.specs.ParameterSets.{chain_count}
use Rattle.su_lms.specs.Strings.{joined, sum_below, u16str, u32str}
use Rattle.su_lms.specs.OneTime.{hash_of_ends}

pub joined_more : (n : ℕ) (string : ℕ → List ℕ) → joined (n + 1) string ≡ joined n string ++ string n
unfolding joined
joined_more n string = rw (add-one n) refl

pub joined_none : (string : ℕ → List ℕ) → joined 0 string ≡ []
unfolding joined
joined_none string = refl

pub sum_below_more : (n : ℕ) (number : ℕ → ℕ) → sum_below (n + 1) number ≡ sum_below n number + number n
unfolding sum_below
sum_below_more n number = rw (add-one n) refl

pub sum_below_none : (number : ℕ → ℕ) → sum_below 0 number ≡ 0
unfolding sum_below
sum_below_none number = refl

-- the same strings give the same bytes
pub joined_same : (n : ℕ) (f g : ℕ → List ℕ) → ((i : ℕ) → i < n → f i ≡ g i) → joined n f ≡ joined n g
unfolding joined
joined_same zero f g same = refl
joined_same (suc n) f g same =
    ap (λ b. b ++ f n) (joined_same n f g (λ i h. same i (omega arith))) ∙ ap (λ b. joined n g ++ b) (same n (omega arith))

pub length-joined : (n : ℕ) (f : ℕ → List ℕ) → ((i : ℕ) → i < n → length (f i) ≡ 32) → length (joined n f) ≡ 32 * n
unfolding joined
length-joined zero f size = refl
length-joined (suc n) f size =
    let front : length (joined n f) ≡ 32 * n = length-joined n f (λ i h. size i (omega arith)) in
    let last : length (f n) ≡ 32 = size n (omega arith) in
    omega (arith, length-append (joined n f) (f n))

-- string i is found at its place, whatever comes behind
pub part-joined : (n : ℕ) (f : ℕ → List ℕ) (rest : List ℕ) (i : ℕ) → ((i : ℕ) → i < n → length (f i) ≡ 32) → i < n → take 32 (drop (32 * i) (joined n f ++ rest)) ≡ f i
unfolding joined
part-joined zero f rest i size low = absurd (omega arith)
part-joined (suc n) f rest i size low =
    let front : (j : ℕ) → j < n → length (f j) ≡ 32 = λ j h. size j (omega arith) in
    let apart : joined n f ++ f n ++ rest ≡ joined n f ++ (f n ++ rest) = append_assoc (joined n f) (f n) rest in
    elim (cases_lt i n) [
      | inl below ↦ ap (λ s. take 32 (drop (32 * i) s)) apart ∙ part-joined n f (f n ++ rest) i front below
      | inr above ↦ (
          let here : i ≡ n = omega arith in
          let place : length (joined n f) ≡ 32 * n = length-joined n f front in
          ap (λ k. take 32 (drop (32 * k) (joined n f ++ f n ++ rest))) here
          ∙ ap (λ s. take 32 (drop (32 * n) s)) apart
          ∙ ap (take 32) (drop_at (joined n f) (f n ++ rest) (32 * n) place)
          ∙ take_at (f n) rest 32 (size n (omega arith)) ∙ ap f (sym here)
          )
    ]

-- a sum of numbers that are at most so large
pub sum_below_le : (n : ℕ) (number : ℕ → ℕ) (most : ℕ) → ((i : ℕ) → number i ≤ most) → sum_below n number ≤ n * most
unfolding sum_below
sum_below_le zero number most small = omega arith
sum_below_le (suc n) number most small = omega (arith, sum_below_le n number most small, small n)

-- the one-time key of equal ends
pub hash_of_ends_same : (ots : ℕ) (id : List ℕ) (q : ℕ) (f g : ℕ → List ℕ) → ((i : ℕ) → i < chain_count ots → f i ≡ g i) → hash_of_ends ots id q f ≡ hash_of_ends ots id q g
unfolding hash_of_ends
hash_of_ends_same ots id q f g same = ap (λ s. sha256 (id ++ u32str q ++ u16str 0x8080 ++ s)) (joined_same (chain_count ots) f g same)
