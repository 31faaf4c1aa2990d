-- The number of a line, and the path behind its first space.
use Rattle.std.proofs.Common.{◌≡◌, ℕ, zero, suc, ◌+◌, ◌-◌, ◌*◌, ◌<◌, ◌≤◌, ◌^◌, true, List, [], ◌∷◌, ◌++◌, length, take, drop, refl, ap, subst, ◌∙◌, rules, arith}
use Rattle.std.specs.Prelude.{slice_index}
use Rattle.std.specs.Char.{is_ascii_digit}
use Rattle.std.specs.Fmt.{decimal}
use Rattle.std.specs.Str.{all_ascii_digits}
use Rattle.std.proofs.lemmas.Bool.{and_parts}
use Rattle.std.proofs.lemmas.Bool.Decides.{nat_tests}
use Rattle.std.proofs.lemmas.Fmt.{digits_decimal}
use Rattle.std.proofs.lemmas.Str.Parse.{IsNumeralModel, numerals_by_fold}
use Rattle.std.proofs.lemmas.List.{length-append}
use Rattle.std.proofs.Math.Seq.{drop-append-add, take-append_seam}
use Rattle.su_spelling.specs.Shown.{shown}
use Rattle.su_seen.specs.Line.{seen_line}

abbrev pub read_on : ℕ → List ℕ → ℕ
read_on n [] = n
read_on n (c ∷ cs) = read_on (10 * n + (c - 48)) cs

pub own : IsNumeralModel (λ ds. all_ascii_digits ds ≡ true) (read_on 0)
own = numerals_by_fold _ (search rules) read_on (search rules)

no_digit : (c : ℕ) → is_ascii_digit c ≡ true → c ≡ 32 → ⊥
no_digit c digit is = grind (arith, nat_tests, digit, is)

first_place : (ds rest : List ℕ) (p : ℕ) → all_ascii_digits ds ≡ true → p ≤ length (ds ++ 32 ∷ rest)
    → ((k : ℕ) → k < p → slice_index (ds ++ 32 ∷ rest) k ≡ 32 → ⊥) → (p < length (ds ++ 32 ∷ rest) → slice_index (ds ++ 32 ∷ rest) p ≡ 32) → p ≡ length ds
first_place [] rest zero digits within before at = refl
first_place [] rest (suc p) digits within before at = absurd (before 0 (omega arith) refl)
first_place (c ∷ ds) rest zero digits within before at =
    absurd (no_digit c (and_parts (is_ascii_digit c) (all_ascii_digits ds) digits).0 (at (omega arith)))
first_place (c ∷ ds) rest (suc p) digits within before at =
    let same = first_place ds rest p (and_parts (is_ascii_digit c) (all_ascii_digits ds) digits).1 (omega arith) (λ k below. before (suc k) (omega arith)) (λ below. at (omega arith)) in
    omega (arith, same)

-- a line that was cut at its first space
pub record IsCut (line : List ℕ) (p n : ℕ) (path : List ℕ) : Type 0 where
  pub within : p < length line
  pub number : take p line ≡ decimal n
  pub behind : drop (p + 1) line ≡ shown path

pub cut_line : (line : List ℕ) (p n : ℕ) (path : List ℕ) → n < 2 ^ 64 → line ≡ seen_line n path → p ≤ length line
    → ((k : ℕ) → k < p → slice_index line k ≡ 32 → ⊥) → (p < length line → slice_index line p ≡ 32) → IsCut line p n path
cut_line line p n path small is within before at =
    let place : p ≡ length (decimal n) =
    first_place (decimal n) (shown path) p (digits_decimal own n small) (subst (λ (it : List ℕ). p ≤ length it) is within)
    (subst (λ (it : List ℕ). (k : ℕ) → k < p → slice_index it k ≡ 32 → ⊥) is before) (subst (λ (it : List ℕ). p < length it → slice_index it p ≡ 32) is at) in
    let long = ap length is ∙ length-append (decimal n) (32 ∷ shown path) in
    record {
      within = omega (arith, place, long);
      number = ap (take p) is ∙ ap (λ (it : ℕ). take it (seen_line n path)) place ∙ take-append_seam (decimal n) (32 ∷ shown path);
      behind = ap (drop (p + 1)) is ∙ ap (λ (it : ℕ). drop (it + 1) (seen_line n path)) place ∙ drop-append-add (decimal n) (32 ∷ shown path) 1;
    }
