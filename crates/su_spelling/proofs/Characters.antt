-- The length of the character that bytes begin with, as it is found.
use Rattle.std.proofs.Common.{◌≡◌, ℕ, Bool, zero, suc, ◌<◌, ◌≤◌, List, true, false, cond, Some, None, unwrap_or, refl, sym, arith}
use Rattle.std.specs.Str.{IsUtf8, is_utf8}
use Rattle.std.proofs.lemmas.Bool.{false_from_ne_true}
use Rattle.std.proofs.lemmas.Str.{IsUtf8-from_is_utf8}
use Rattle.su_spelling.specs.Shown.{begins_text, char_len}

pub is_utf8-not_IsUtf8 : (bs : List ℕ) → (IsUtf8 bs → ⊥) → is_utf8 bs ≡ false
is_utf8-not_IsUtf8 bs none = false_from_ne_true (is_utf8 bs) (λ some. none (IsUtf8-from_is_utf8 bs some))

-- ---- what the length tells

abbrev first_of_four : Bool → Bool → Bool → Bool → ℕ
first_of_four p q r s = unwrap_or (cond p (Some 1) (cond q (Some 2) (cond r (Some 3) (cond s (Some 4) None)))) 0

-- tests at 1 to 4, the first of which is passed at n
pub record IsFirst (test : ℕ → Bool) (n : ℕ) : Type 0 where
  pub passes : test n ≡ true
  pub first : (k : ℕ) → 1 ≤ k → k < n → test k ≡ false

is_first : (test : ℕ → Bool) (p q r s : Bool) → test 1 ≡ p → test 2 ≡ q → test 3 ≡ r → test 4 ≡ s
    → (n : ℕ) → first_of_four p q r s ≡ suc n → IsFirst test (suc n)
is_first test true q r s e f g h n is = record { passes = rw (sym is) e; first = λ k some below. absurd (omega arith) }
is_first test false true r s e f g h n is = record { passes = rw (sym is) f; first = λ k some below. rw (one_of_one k some (omega arith)) e } where
  one_of_one : (k : ℕ) → 1 ≤ k → k < 2 → k ≡ 1
  one_of_one k some below = omega arith
is_first test false false true s e f g h n is = record { passes = rw (sym is) g; first = λ k some below. of_two k some (omega arith) } where
  of_two : (k : ℕ) → 1 ≤ k → k < 3 → test k ≡ false
  of_two zero some below = absurd (omega arith)
  of_two (suc zero) some below = e
  of_two (suc (suc zero)) some below = f
  of_two (suc (suc (suc k))) some below = absurd (omega arith)
is_first test false false false true e f g h n is = record { passes = rw (sym is) h; first = λ k some below. of_three k some (omega arith) } where
  of_three : (k : ℕ) → 1 ≤ k → k < 4 → test k ≡ false
  of_three zero some below = absurd (omega arith)
  of_three (suc zero) some below = e
  of_three (suc (suc zero)) some below = f
  of_three (suc (suc (suc zero))) some below = g
  of_three (suc (suc (suc (suc k)))) some below = absurd (omega arith)
is_first test false false false false e f g h n is = absurd (omega arith)

pub char_len_is_first : (bs : List ℕ) (n : ℕ) → char_len bs ≡ suc n → IsFirst (begins_text bs) (suc n)
char_len_is_first bs n is = is_first (begins_text bs) _ _ _ _ refl refl refl refl n is
