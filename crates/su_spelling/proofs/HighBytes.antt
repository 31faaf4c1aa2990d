-- Behind the first byte of a character come bytes of which none is ASCII.
use Rattle.std.proofs.Common.{◌≡◌, ℕ, zero, suc, ◌<◌, ◌≤◌, true, List, [], ◌∷◌, take, length, get_or, refl, sym, ap, inl, inr, arith}
use Rattle.std.specs.Prelude.{nat_le}
use Rattle.std.specs.List.{AllByRecursion}
use Rattle.std.specs.Str.{IsUtf8, is_utf8}
use Rattle.std.proofs.lemmas.Bool.{and_parts, cases_lt}
use Rattle.std.proofs.lemmas.Bool.Decides.{nat_tests}
use Rattle.std.proofs.lemmas.List.{get_or-take, length-take-le}
use Rattle.std.proofs.lemmas.Str.{IsCharBoundary-before_ascii, IsUtf8-from_is_utf8, IsUtf8-take, is_utf8-from_IsUtf8}
use Rattle.su_spelling.specs.Shown.{begins_text, char_len}
use Rattle.su_spelling.proofs.Characters.{char_len_is_first}

-- a byte that is no ASCII
abbrev pub IsHigh : ℕ → Type 0
IsHigh b = 128 ≤ b

take-take-le : (k n : ℕ) (bs : List ℕ) → k ≤ n → take k (take n bs) ≡ take k bs
take-take-le zero n bs le = refl
take-take-le (suc k) zero bs le = absurd (omega arith)
take-take-le (suc k) (suc n) [] le = refl
take-take-le (suc k) (suc n) (b ∷ bs) le = ap (λ xs. b ∷ xs) (take-take-le k n bs (omega arith))

-- a text before an ASCII byte of a text
text_before : (bs : List ℕ) (n k : ℕ) → begins_text bs n ≡ true → k < n → get_or bs k 0 < 128 → begins_text bs k ≡ true
text_before bs n k begins below ascii =
    let parts = and_parts (nat_le n (length bs)) (is_utf8 (take n bs)) begins in
    let fits : n ≤ length bs = grind (arith, nat_tests, parts.0) in
    let text : IsUtf8 (take n bs) = IsUtf8-from_is_utf8 (take n bs) parts.1 in
    let len : length (take n bs) ≡ n = length-take-le n bs fits in
    let same : get_or (take n bs) k 0 ≡ get_or bs k 0 = get_or-take n bs k 0 below in
    let at = IsCharBoundary-before_ascii (take n bs) k (omega (arith, len)) (omega (arith, same, ascii)) in
    let front : is_utf8 (take k bs) ≡ true = rw (sym (take-take-le k n bs (omega arith))) (is_utf8-from_IsUtf8 (take k (take n bs)) (IsUtf8-take (take n bs) k text at)) in
    let fits_too : k ≤ length bs = omega arith in
    grind (arith, nat_tests, front, fits_too)

-- each byte of a character behind its first
high_at : (bs : List ℕ) (n k : ℕ) → char_len bs ≡ suc n → 1 ≤ k → k ≤ n → 128 ≤ get_or bs k 0
high_at bs n k is some below =
    let first = char_len_is_first bs n is in
    elim (cases_lt (get_or bs k 0) 128) [
      | inl ascii ↦
          let yes = text_before bs (suc n) k first.passes (omega arith) ascii in
          let no = first.first k some (omega arith) in
          absurd (cc (yes, no))
      | inr high ↦ high
    ]

all_high : (n : ℕ) (bs : List ℕ) → ((k : ℕ) → k < n → 128 ≤ get_or bs k 0) → AllByRecursion IsHigh (take n bs)
all_high zero bs high = tt
all_high (suc n) [] high = tt
all_high (suc n) (b ∷ bs) high = (high 0 (omega arith), all_high n bs (λ k below. high (suc k) (omega arith)))

pub high_behind : (b : ℕ) (bs : List ℕ) (n : ℕ) → char_len (b ∷ bs) ≡ suc n → AllByRecursion IsHigh (take n bs)
high_behind b bs n is = all_high n bs (λ k below. high_at (b ∷ bs) n (suc k) is (omega arith) (omega arith))
