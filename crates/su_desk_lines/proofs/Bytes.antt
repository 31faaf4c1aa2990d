-- Where a byte stands first, and what stands before it.
use Rattle.std.proofs.Common.{◌≡◌, ◌∙◌, ℕ, zero, suc, ◌+◌, ◌<◌, ◌≤◌, Bool, true, false, not, cond, ◌&&◌, List, [], ◌∷◌, ◌++◌, length, take, drop, get_or, add-one, nat_eq, nat_lt, Option, Some, None, subst, sym, refl, ap, arith}
use Rattle.std.specs.Prelude.{MatchOption, slice_get}
use Rattle.std.specs.List.{list_all, position, position_or_len, prefix_len}
use Rattle.std.proofs.lemmas.Bool.Decides.{nat_tests}
use Rattle.std.proofs.lemmas.List.{take_all, take-append-drop, drop-drop}
use Rattle.std.proofs.Math.Seq.{drop-cons}
use Rattle.std.proofs.lemmas.List.Sums.{position_or_len_is}
use Rattle.std.proofs.lemmas.Option.{slice_get-get_or, slice_get_within, get_or_from_slice_get}
use Rattle.memchr.specs.Find.{IsFirstByte, is_byte}
use Rattle.su_desk_lines.specs.Lines.{is_unbroken, Takes}

fails : (b : Bool) → (b ≡ true → ⊥) → b ≡ false
fails true h = absurd (h refl)
fails false h = refl

below : (a b : ℕ) → a < b → nat_lt a b ≡ true
below a b h = grind (arith, nat_tests)

not_below : (a b : ℕ) → b ≤ a → nat_lt a b ≡ false
not_below a b h = grind (arith, nat_tests)

is_ten : (b : ℕ) → nat_eq b 10 ≡ true → b ≡ 10
is_ten b h = grind (arith, nat_tests)

-- how many other bytes stand before the first such byte
before_none : (byte : ℕ) (bytes : List ℕ) → IsFirstByte (is_byte byte) bytes None → position_or_len (λ b. nat_eq b byte) bytes ≡ length bytes
before_none byte bytes none = position_or_len_is _ bytes (length bytes) 0 (omega arith) (λ k lt. fails _ (none k (omega arith) lt)) (λ lt. absurd (omega arith))

before_first : (byte : ℕ) (bytes : List ℕ) (place : ℕ) → IsFirstByte (is_byte byte) bytes (Some place) → position_or_len (λ b. nat_eq b byte) bytes ≡ place
before_first byte bytes place (before, here) =
    let within = before.high in
    position_or_len_is _ bytes place 0 (omega arith) (λ k lt. fails _ (before.before k (omega arith) lt)) (λ lt. here)

pub position-byte : (byte : ℕ) (bytes : List ℕ) (place : Option ℕ) → IsFirstByte (is_byte byte) bytes place → place ≡ position (λ b. nat_eq b byte) bytes
position-byte byte bytes None none =
    let all = before_none byte bytes none in
    sym (ap (λ t. cond t (Some (position_or_len (λ b. nat_eq b byte) bytes)) None) (not_below (position_or_len (λ b. nat_eq b byte) bytes) (length bytes) (omega arith)))
position-byte byte bytes (Some place) first =
    let at = before_first byte bytes place first in
    let within = first.0.high in
    sym (ap (λ t. cond t (Some (position_or_len (λ b. nat_eq b byte) bytes)) None) (below (position_or_len (λ b. nat_eq b byte) bytes) (length bytes) (omega arith)) ∙ ap Some at)

-- those pass that stand before the first that doesn't
list_all-prefix : (p : ℕ → Bool) (xs : List ℕ) (n : ℕ) → n ≤ prefix_len p xs → list_all p (take n xs) ≡ true
list_all-prefix p xs zero h = refl
list_all-prefix p [] (suc n) h = refl
list_all-prefix p (x ∷ xs) (suc n) h = go (p x) h (list_all-prefix p xs n)
  where
    go : (t : Bool) → suc n ≤ cond t (1 + prefix_len p xs) 0 → (n ≤ prefix_len p xs → list_all p (take n xs) ≡ true) → (t && list_all p (take n xs)) ≡ true
    go true h rest = rest (omega arith)
    go false h rest = absurd (omega arith)

pub first_line_feed : (bytes : List ℕ) (end : Option ℕ) → IsFirstByte (is_byte 10) bytes end → MatchOption end (is_unbroken bytes ≡ true) (λ k. (slice_get bytes k ≡ Some 10) × (is_unbroken (take k bytes) ≡ true))
first_line_feed bytes None none =
    let all = before_none 10 bytes none in
    subst (λ bs. is_unbroken bs ≡ true) (take_all (length bytes) bytes (omega arith)) (list_all-prefix (λ b. not (nat_eq b 10)) bytes (length bytes) (omega arith))
first_line_feed bytes (Some k) first =
    let at = before_first 10 bytes k first in
    (slice_get-get_or bytes k 0 first.0.high ∙ ap Some (is_ten _ first.1), list_all-prefix (λ b. not (nat_eq b 10)) bytes k (omega arith))

-- a part up to the end of a line was taken, and that end
pub taken_part : (ready line grown : List ℕ) (start end : ℕ) (rest : List ℕ) → rest ≡ drop start ready → slice_get rest end ≡ Some 10 → is_unbroken (take end rest) ≡ true → grown ≡ line ++ take end rest
    → Takes true line grown (drop start ready) (drop (start + (end + 1)) ready)
taken_part ready line grown start end rest is here unbroken grows =
    let within = slice_get_within rest end 10 here in
    let byte : get_or rest end 0 ≡ 10 = get_or_from_slice_get rest end 10 0 here in
    let next : drop end rest ≡ 10 ∷ drop (end + 1) rest = rw add-one (drop-cons rest end 0 within ∙ ap (λ b. b ∷ drop (suc end) rest) byte) in
    let left : drop (end + 1) rest ≡ drop (start + (end + 1)) ready = ap (drop (end + 1)) is ∙ drop-drop (end + 1) start ready in
    (take end rest, unbroken, grows, sym is ∙ sym (take-append-drop end rest) ∙ ap (λ xs. take end rest ++ xs) (next ∙ ap (λ xs. 10 ∷ xs) left))
