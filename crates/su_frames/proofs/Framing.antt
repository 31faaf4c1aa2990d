-- A whole message is a frame's.
use Rattle.std.proofs.Common.{◌≡◌, ◌∙◌, sym, ap, subst, ℕ, ◌+◌, ◌<◌, ◌≤◌, List, ◌++◌, length, get_or, take, drop, Ok, Some, arith, inl, inr}
use Rattle.std.specs.Int.{w32, to_be_bytes}
use Rattle.std.proofs.lemmas.Bool.{cases_lt}
use Rattle.std.proofs.lemmas.List.{take-append-drop, drop-drop, length-take, length-drop, get_or-take, get_or_past}
use Rattle.std.proofs.lemmas.Nat.{be_bytes_4}
use Rattle.su_frames.specs.Stream.{frame, IsMessage, next_length, Measures}

abbrev pub IsBytes : List ℕ → Type 0
IsBytes bytes = (i : ℕ) → get_or bytes i 0 < 256

IsBytes-take : (n : ℕ) (bytes : List ℕ) → IsBytes bytes → IsBytes (take n bytes)
IsBytes-take n bytes h i =
    elim (cases_lt i n) [
      | inl lt ↦ rw (get_or-take n bytes i 0 lt) (h i)
      | inr le ↦ rw (get_or_past (take n bytes) i 0 (omega (arith, length-take n bytes))) (omega arith)
    ]

-- the length that was read is the one that is spelled
pub spelled : (bytes : List ℕ) (n : ℕ) → IsBytes bytes → 4 ≤ length bytes → next_length bytes ≡ n → take 4 bytes ≡ to_be_bytes w32 n
spelled bytes n fits four is = sym (be_bytes_4 (take 4 bytes) n (omega (arith, length-take 4 bytes)) (IsBytes-take 4 bytes fits) (sym is))

-- what is measured is a frame
pub framed : (bytes message rest : List ℕ) (n : ℕ) → Measures bytes (Ok (Some n)) → message ≡ take n (drop 4 bytes) → rest ≡ drop (4 + n) bytes → IsMessage message × (bytes ≡ frame message ++ rest)
framed bytes message rest n (is, some, most, whole) m r =
    let len : length message ≡ n = ap length m ∙ omega (arith, length-take n (drop 4 bytes), length-drop 4 bytes) in
    let tail : message ++ rest ≡ drop 4 bytes = ap (λ (x : List ℕ). x ++ rest) m ∙ ap (λ (x : List ℕ). take n (drop 4 bytes) ++ x) (r ∙ sym (drop-drop n 4 bytes)) ∙ take-append-drop n (drop 4 bytes) in
    let all : bytes ≡ to_be_bytes w32 n ++ (message ++ rest) = sym (take-append-drop 4 bytes) ∙ ap (λ (x : List ℕ). x ++ drop 4 bytes) is ∙ ap (λ (x : List ℕ). to_be_bytes w32 n ++ x) (sym tail) in
    ((omega arith, omega arith), subst (λ (k : ℕ). bytes ≡ to_be_bytes w32 k ++ (message ++ rest)) (sym len) all)
