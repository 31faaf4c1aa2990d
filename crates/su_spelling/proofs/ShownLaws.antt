-- What is shown of a name is read as that name, is a text, and stays on its line.
use Rattle.std.proofs.Common.{◌≡◌, ℕ, zero, suc, ◌-◌, ◌/◌, ◌%◌, ◌<◌, Bool, true, false, cond, List, [], ◌∷◌, ◌++◌, take, length, get_or, Some, refl, ap, ◌∙◌, arith}
use Rattle.std.specs.Prelude.{not, ◌==◌, nat_le, slice_index}
use Rattle.std.specs.List.{AllByRecursion, list_all}
use Rattle.std.specs.Result.{result_ok}
use Rattle.std.specs.Str.{IsAscii, IsUtf8, is_utf8}
use Rattle.std.proofs.lemmas.Bool.{and_parts}
use Rattle.std.proofs.lemmas.Bool.Decides.{nat_tests}
use Rattle.std.proofs.lemmas.List.{append_assoc, append-nil}
use Rattle.std.proofs.lemmas.List.Folds.{list_all-append}
use Rattle.std.proofs.lemmas.Str.{IsUtf8-append, IsUtf8-from_ascii, IsUtf8-from_is_utf8, IsUtf8-nil}
use Rattle.std.proofs.lemmas.Str.Ascii.{IsAscii-cons, IsAscii-from_reads}
use native.Mathlib.Numerals.{unary_clauses}
use Rattle.hex.specs.Hex.{encode_lower, encode_with, hex_digit_value, lower_digits}
use Rattle.hex.proofs.HexLemmas.{IsAscii-encode_with, IsDigits-lower_digits, decode_of-encode_lower}
use Rattle.su_spelling.specs.Shown.{AreBytes, char_len, escape, first_shown, is_control, is_hidden, plain_len, shown, shown_from}
use Rattle.su_spelling.specs.Read.{joined, read, read_from}
use Rattle.su_spelling.proofs.Characters.{char_len_is_first}
use Rattle.su_spelling.proofs.HighBytes.{IsHigh, high_behind}

bytes_behind : (b : ℕ) (bs : List ℕ) → AreBytes (b ∷ bs) → AreBytes bs
bytes_behind b bs bytes k d below = bytes (suc k) d (omega arith)

first_byte : (b : ℕ) (bs : List ℕ) → AreBytes (b ∷ bs) → b < 256
first_byte b bs bytes = bytes 0 0 (omega arith)

-- ---- at a byte that begins nothing which came before it

-- whether it stands for itself
pub record StandsFor (b : ℕ) (bs : List ℕ) (n : ℕ) : Type 0 where
  pub plain : is_hidden b ≡ false
  pub character : char_len (b ∷ bs) ≡ suc n

stands_for : (b : ℕ) (bs : List ℕ) (n : ℕ) → plain_len (b ∷ bs) ≡ suc n → StandsFor b bs n
stands_for b bs n is = by_hidden (is_hidden b) refl is where
  by_hidden : (h : Bool) → is_hidden b ≡ h → cond h 0 (char_len (b ∷ bs)) ≡ suc n → StandsFor b bs n
  by_hidden true e is = absurd (omega arith)
  by_hidden false e is = record { plain = e; character = is }

-- ---- it is read back

read_escape : (b : ℕ) (text : List ℕ) → b < 256 → read_from 0 (escape b ++ text) ≡ joined (Some (b ∷ [])) (read_from 0 text)
unfolding encode_with
read_escape b text byte = ap (λ it. joined it (read_from 0 text)) (ap result_ok (decode_of-encode_lower (b ∷ []) bytes)) where
  bytes : (i : ℕ) → get_or (b ∷ []) i 0 < 256
  bytes zero = byte
  bytes (suc i) = omega arith

read_plain : (b : ℕ) (text : List ℕ) → (b == 92) ≡ false → read_from 0 (b ∷ text) ≡ joined (Some (b ∷ [])) (read_from 0 text)
read_plain b text plain = rw plain refl

pub read-shown_from : (n : ℕ) (bs : List ℕ) → AllByRecursion IsHigh (take n bs) → AreBytes bs → read_from 0 (shown_from n bs) ≡ Some bs
read-shown_from zero [] high bytes = refl
read-shown_from (suc n) [] high bytes = refl
read-shown_from (suc n) (b ∷ bs) high bytes =
    read_plain b (shown_from n bs) (grind (arith, nat_tests, high.0))
    ∙ ap (joined (Some (b ∷ []))) (read-shown_from n bs high.1 (bytes_behind b bs bytes))
read-shown_from zero (b ∷ bs) high bytes =
    by_len (plain_len (b ∷ bs)) refl (λ n behind. read-shown_from n bs behind (bytes_behind b bs bytes)) where
      by_len : (len : ℕ) → plain_len (b ∷ bs) ≡ len → ((n : ℕ) → AllByRecursion IsHigh (take n bs) → read_from 0 (shown_from n bs) ≡ Some bs)
          → read_from 0 (first_shown b len ++ shown_from (len - 1) bs) ≡ Some (b ∷ bs)
      by_len zero is behind =
          read_escape b (shown_from 0 bs) (first_byte b bs bytes) ∙ ap (joined (Some (b ∷ []))) (behind 0 tt)
      by_len (suc n) is behind =
          let stands = stands_for b bs n is in
          simp unary_clauses
          (read_plain b (shown_from n bs) (grind (arith, nat_tests, stands.plain))
          ∙ ap (joined (Some (b ∷ []))) (behind n (high_behind b bs n stands.character)))

pub read-shown : (name : List ℕ) → AreBytes name → read (shown name) ≡ Some name
read-shown name bytes = read-shown_from 0 name tt bytes

-- ---- it is a text

ascii_digit : (c d : ℕ) → hex_digit_value c ≡ Some d → c < 128
ascii_digit c d is = grind (arith, nat_tests, is)

IsAscii-lower_digits : IsAscii lower_digits
IsAscii-lower_digits =
    IsAscii-from_reads lower_digits 16 (omega arith)
    (λ d below. ascii_digit (slice_index lower_digits d) d (IsDigits-lower_digits d below))

escape_utf8 : (b : ℕ) → IsUtf8 (escape b)
escape_utf8 b =
    let digits = IsAscii-encode_with lower_digits (b ∷ []) IsAscii-lower_digits in
    let escaped = IsAscii-cons 120 (encode_lower (b ∷ [])) (omega arith) digits in
    IsUtf8-from_ascii (escape b) (IsAscii-cons 92 (120 ∷ encode_lower (b ∷ [])) (omega arith) escaped)

pub utf8-shown_from : (n : ℕ) (bs front : List ℕ) → IsUtf8 (front ++ take n bs) → IsUtf8 (front ++ shown_from n bs)
utf8-shown_from zero [] front text = text
utf8-shown_from (suc n) [] front text = text
utf8-shown_from (suc n) (b ∷ bs) front text =
    rw (append_assoc front (b ∷ []) (shown_from n bs)) at (utf8-shown_from n bs (front ++ b ∷ []) (rw (append_assoc front (b ∷ []) (take n bs)) text))
utf8-shown_from zero (b ∷ bs) front text =
    by_len (plain_len (b ∷ bs)) refl (λ n front. utf8-shown_from n bs front) where
      by_len : (len : ℕ) → plain_len (b ∷ bs) ≡ len → ((n : ℕ) (front : List ℕ) → IsUtf8 (front ++ take n bs) → IsUtf8 (front ++ shown_from n bs))
          → IsUtf8 (front ++ (first_shown b len ++ shown_from (len - 1) bs))
      by_len zero is behind = IsUtf8-append front (escape b ++ shown_from 0 bs) (rw append-nil at text) (IsUtf8-append (escape b) (shown_from 0 bs) (escape_utf8 b) (behind 0 [] IsUtf8-nil))
      by_len (suc n) is behind =
          let first = char_len_is_first (b ∷ bs) n (stands_for b bs n is).character in
          let fits = and_parts (nat_le (suc n) (length (b ∷ bs))) (is_utf8 (b ∷ take n bs)) first.passes in
          simp unary_clauses
          (IsUtf8-append front (b ∷ shown_from n bs) (rw append-nil at text) (behind n (b ∷ []) (IsUtf8-from_is_utf8 (b ∷ take n bs) fits.1)))

-- ---- it stays on its line

abbrev stays : ℕ → Bool
stays b = not (is_control b)

of_digit : (c d : ℕ) → hex_digit_value c ≡ Some d → stays c ≡ true
of_digit c d is = grind (arith, nat_tests, is)

digit_stays : (d : ℕ) → d < 16 → stays (slice_index lower_digits d) ≡ true
digit_stays d below = of_digit (slice_index lower_digits d) d (IsDigits-lower_digits d below)

escape_stays : (b : ℕ) → b < 256 → list_all stays (escape b) ≡ true
unfolding encode_with
escape_stays b byte =
    let high = digit_stays (b / 16) (omega arith) in
    let low = digit_stays (b % 16) (omega arith) in
    rw (high, low) refl

pub stays-shown_from : (n : ℕ) (bs : List ℕ) → AllByRecursion IsHigh (take n bs) → AreBytes bs → list_all stays (shown_from n bs) ≡ true
stays-shown_from zero [] high bytes = refl
stays-shown_from (suc n) [] high bytes = refl
stays-shown_from (suc n) (b ∷ bs) high bytes =
    let first : stays b ≡ true = grind (arith, nat_tests, high.0) in
    rw first (stays-shown_from n bs high.1 (bytes_behind b bs bytes))
stays-shown_from zero (b ∷ bs) high bytes =
    by_len (plain_len (b ∷ bs)) refl (λ n behind. stays-shown_from n bs behind (bytes_behind b bs bytes)) where
      by_len : (len : ℕ) → plain_len (b ∷ bs) ≡ len → ((n : ℕ) → AllByRecursion IsHigh (take n bs) → list_all stays (shown_from n bs) ≡ true)
          → list_all stays (first_shown b len ++ shown_from (len - 1) bs) ≡ true
      by_len zero is behind =
          let escaped = escape_stays b (first_byte b bs bytes) in
          rw (list_all-append stays (escape b) (shown_from 0 bs), escaped) (behind 0 tt)
      by_len (suc n) is behind =
          let stands = stands_for b bs n is in
          let first : stays b ≡ true = grind (arith, nat_tests, stands.plain) in
          simp unary_clauses (rw first (behind n (high_behind b bs n stands.character)))

pub stays-shown : (name : List ℕ) → AreBytes name → list_all stays (shown name) ≡ true
stays-shown name bytes = stays-shown_from 0 name tt bytes
