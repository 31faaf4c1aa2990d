-- The least free number is the one that the definition finds.
use Rattle.std.proofs.Common.{◌≡◌, ℕ, zero, suc, ◌+◌, ◌-◌, ◌<◌, ◌≤◌, Bool, true, false, cond, Option, Some, None, IsTrue, refl, sym, ap, ◌∙◌, inl, inr, arith, rules, tests}
use Rattle.std.specs.List.{find, range_with_len}
use Rattle.std.proofs.lemmas.Bool.{false≢true, cases_lt}
use Rattle.su_bytes.specs.FileId.{is_inum}
use Rattle.su_table.specs.Free.{IsLeastFree}
use Rattle.su_draft.specs.Number.{least_free, last_number}

-- i-numbers are those of 1 to the last one
pub inum_range : (n : ℕ) → IsTrue (is_inum n) → (1 ≤ n) × (n ≤ last_number)
inum_range n h = search (rules, tests)

pub range_inum : (n : ℕ) → 1 ≤ n → n ≤ last_number → IsTrue (is_inum n)
range_inum n h k = search (rules, tests)

-- the least free one of n numbers, from `from` on
abbrev IsLeastOf : (ℕ → Bool) → ℕ → ℕ → Option ℕ → Type 0
IsLeastOf free from n (Some k) = (from ≤ k) × (k < from + n) × (free k ≡ true) × ((m : ℕ) → from ≤ m → m < k → free m ≡ false)
IsLeastOf free from n None = (m : ℕ) → from ≤ m → m < from + n → free m ≡ false

least_of : (free : ℕ → Bool) (from : ℕ) (o : Option ℕ) → 1 ≤ from → IsLeastFree free from o → IsLeastOf free from (last_number + 1 - from) o
least_of free from None h k = λ m le lt. k m le (range_inum m (omega arith) (omega arith))
least_of free from (Some n) h k = let top = (inum_range n k.1).1 in (k.0, omega arith, k.2, k.3)

-- one number, and those behind it
found_step : (free : ℕ → Bool) (from n : ℕ) → ((o : Option ℕ) → IsLeastOf free (from + 1) n o → o ≡ find free (range_with_len (from + 1) n))
    → (o : Option ℕ) (b : Bool) → free from ≡ b → IsLeastOf free from (suc n) o → o ≡ cond b (Some from) (find free (range_with_len (from + 1) n))
found_step free from n behind None true e h = absurd (false≢true (sym (h from (omega arith) (omega arith)) ∙ e))
found_step free from n behind (Some k) true e h =
    elim (cases_lt from k) [
      | inl lt ↦ absurd (false≢true (sym (h.3 from (omega arith) lt) ∙ e))
      | inr le ↦ let same : k ≡ from = omega (arith, h.0) in ap (λ (i : ℕ). Some i) same
    ]
found_step free from n behind None false e h = behind None (λ m le lt. h m (omega arith) (omega arith))
found_step free from n behind (Some k) false e h =
    elim (cases_lt from k) [
      | inl lt ↦ behind (Some k) (omega arith, omega (arith, h.1), h.2, λ m le below. h.3 m (omega arith) below)
      | inr le ↦ let same : k ≡ from = omega (arith, h.0) in absurd (false≢true (sym e ∙ ap free (sym same) ∙ h.2))
    ]

found : (free : ℕ → Bool) (n from : ℕ) (o : Option ℕ) → IsLeastOf free from n o → o ≡ find free (range_with_len from n)
found free zero from None h = refl
found free zero from (Some k) h = absurd (omega (arith, h.0, h.1))
found free (suc n) from o h = found_step free from n (found free n (from + 1)) o (free from) refl h

-- there is one least free number
pub least_free-is : (free : ℕ → Bool) (from : ℕ) (o : Option ℕ) → 1 ≤ from → IsLeastFree free from o → o ≡ least_free free from
unfolding least_free
least_free-is free from o h k = found free (last_number + 1 - from) from o (least_of free from o h k)

-- behind the last number none is free
pub least_free-past : (free : ℕ → Bool) (from : ℕ) → (IsTrue (is_inum from) → ⊥) → 1 ≤ from → least_free free from ≡ None
unfolding least_free
least_free-past free from h k =
    elim (cases_lt last_number from) [
      | inl lt ↦ let over : last_number + 1 - from ≡ 0 = omega arith in ap (λ n. find free (range_with_len from n)) over
      | inr le ↦ absurd (h (range_inum from k le))
    ]

-- ---- the number that is found is the least free one

least_step : (free : ℕ → Bool) (from n : ℕ) (b : Bool) (o : Option ℕ) → free from ≡ b → IsLeastOf free (from + 1) n o → IsLeastOf free from (suc n) (cond b (Some from) o)
least_step free from n true o e h = (omega arith, omega arith, e, λ m le lt. absurd (omega (arith, le, lt)))
least_step free from n false None e h =
    λ m le lt. elim (cases_lt from m) [
      | inl above ↦ h m (omega arith) (omega arith)
      | inr below ↦ let same : from ≡ m = omega (arith, le, below) in ap free (sym same) ∙ e
    ]
least_step free from n false (Some k) e h = (
  omega (arith, h.0),
  omega (arith, h.1),
  h.2,
  λ m le lt. elim (cases_lt from m) [
    | inl above ↦ h.3 m (omega arith) lt
    | inr below ↦ let same : from ≡ m = omega (arith, le, below) in ap free (sym same) ∙ e
  ],
)

least_found : (free : ℕ → Bool) (n from : ℕ) → IsLeastOf free from n (find free (range_with_len from n))
least_found free zero from = λ m le lt. absurd (omega (arith, le, lt))
least_found free (suc n) from = least_step free from n (free from) (find free (range_with_len (from + 1) n)) refl (least_found free n (from + 1))

free_of : (free : ℕ → Bool) (from : ℕ) (o : Option ℕ) → 1 ≤ from → IsLeastOf free from (last_number + 1 - from) o → IsLeastFree free from o
free_of free from None h k = λ m le is. k m le (let r = inum_range m is in omega (arith, r.0, r.1))
free_of free from (Some n) h k = (k.0, range_inum n (omega (arith, k.0)) (omega (arith, k.0, k.1)), k.2, k.3)

pub least_free-least : (free : ℕ → Bool) (from : ℕ) → 1 ≤ from → IsLeastFree free from (least_free free from)
unfolding least_free
least_free-least free from h = free_of free from (find free (range_with_len from (last_number + 1 - from))) h (least_found free (last_number + 1 - from) from)
