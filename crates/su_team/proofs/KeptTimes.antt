-- Times that are kept are found.
use Rattle.std.proofs.Common.{◌≡◌, ℕ, zero, suc, ◌+◌, ◌*◌, ◌-◌, ◌<◌, ◌≤◌, ◌^◌, true, false, List, [], ◌∷◌, ◌++◌, length, take, drop, Some, None, refl, sym, ap, ◌∙◌, inl, inr, arith}
use Rattle.std.specs.Prelude.{All, nat_le, ◌&&◌, if◌then◌else◌}
use Rattle.std.specs.Int.{from_be_bytes, to_be_bytes, w64}
use Rattle.std.specs.List.{slice_get}
use Rattle.std.proofs.lemmas.Bool.{le-leb}
use Rattle.std.proofs.lemmas.Bool.Decides.{leb_tells, nat_tests}
use Rattle.std.proofs.lemmas.List.{length-append}
use Rattle.std.proofs.lemmas.Nat.{from_be_bytes-to_be_bytes_8}
use Rattle.std.proofs.Math.Seq.{drop-append-add}
use Rattle.su_team.specs.Time.{time_at, times_bytes}

same_test : (a b c d : ℕ) → (a ≤ b → c ≤ d) → (c ≤ d → a ≤ b) → nat_le a b ≡ nat_le c d
same_test a b c d to from =
    elim (leb_tells a b) [
      | inl fits ↦ fits.0 ∙ sym (le-leb c d (to fits.1))
      | inr past ↦
          elim (leb_tells c d) [
            | inl other ↦ let within = from other.1 in let beyond = past.1 in absurd (omega (arith, within, beyond))
            | inr neither ↦ past.0 ∙ sym neither.0
          ]
    ]

-- the first of them
at_front : (s : ℕ) (rest : List ℕ) → s < 2 ^ 64 → time_at (to_be_bytes w64 s ++ rest) 1 ≡ Some s
at_front s rest small =
    let long = length-append (to_be_bytes w64 s) rest in
    let there : nat_le 8 (length (to_be_bytes w64 s ++ rest)) ≡ true = le-leb 8 (length (to_be_bytes w64 s ++ rest)) (omega (arith, long)) in
    ap (λ it. if it then Some (from_be_bytes w64 (to_be_bytes w64 s)) else None) there ∙ ap Some (from_be_bytes-to_be_bytes_8 s small)

-- one behind eight bytes
further : (front rest : List ℕ) (n : ℕ) → length front ≡ 8 → time_at (front ++ rest) (suc n + 1) ≡ time_at rest (n + 1)
further front rest n eight =
    let long = length-append front rest in
    let first : nat_le 1 (suc n + 1) ≡ nat_le 1 (n + 1) = same_test 1 (suc n + 1) 1 (n + 1) (λ it. omega arith) (λ it. omega arith) in
    let second : nat_le (8 * (suc n + 1)) (length (front ++ rest)) ≡ nat_le (8 * (n + 1)) (length rest) =
    same_test (8 * (suc n + 1)) (length (front ++ rest)) (8 * (n + 1)) (length rest) (λ it. omega (arith, long, eight)) (λ it. omega (arith, long, eight)) in
    let place : 8 * (suc n + 1 - 1) ≡ length front + 8 * (n + 1 - 1) = omega (arith, eight) in
    let part : drop (8 * (suc n + 1 - 1)) (front ++ rest) ≡ drop (8 * (n + 1 - 1)) rest =
    ap (λ (it : ℕ). drop it (front ++ rest)) place ∙ drop-append-add front rest (8 * (n + 1 - 1)) in
    ap (λ (it : List ℕ). if nat_le 1 (suc n + 1) && nat_le (8 * (suc n + 1)) (length (front ++ rest)) then Some (from_be_bytes w64 (take 8 it)) else None) part
    ∙ ap (λ it. if it && nat_le (8 * (suc n + 1)) (length (front ++ rest)) then Some (from_be_bytes w64 (take 8 (drop (8 * (n + 1 - 1)) rest))) else None) first
    ∙ ap (λ it. if nat_le 1 (n + 1) && it then Some (from_be_bytes w64 (take 8 (drop (8 * (n + 1 - 1)) rest))) else None) second

pub kept_time : (seconds : List ℕ) (n : ℕ) → All (λ s. s < 2 ^ 64) seconds → time_at (times_bytes seconds) (n + 1) ≡ slice_get seconds n
kept_time [] n all = let none : nat_le (8 * (n + 1)) 0 ≡ false = grind (arith, nat_tests) in grind (arith, nat_tests, none)
kept_time (s ∷ seconds) zero all = at_front s (times_bytes seconds) (all 0 0 (omega arith))
kept_time (s ∷ seconds) (suc n) all = further (to_be_bytes w64 s) (times_bytes seconds) n refl ∙ kept_time seconds n (λ k d below. all (suc k) d (omega arith))
