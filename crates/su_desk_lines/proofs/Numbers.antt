-- When a word is a number, and which.
use Rattle.std.proofs.Common.{◌≡◌, ℕ, ◌+◌, ◌-◌, ◌*◌, ◌^◌, ◌<◌, ◌≤◌, Bool, true, false, ◌&&◌, cond, List, [], ◌∷◌, length, get_or, drop, refl, ap, arith}
use Rattle.std.proofs.Common.{add-one}
use Rattle.std.proofs.Math.Seq.{drop-cons}
use Rattle.std.specs.Prelude.{Some, None, nat_lt, nat_le}
use Rattle.std.specs.List.{list_all}
use Rattle.std.specs.Char.{is_ascii_digit, digit_value}
use Rattle.std.specs.Str.Parse.{digits_value, digits_value_after}
use Rattle.std.proofs.lemmas.Bool.Decides.{nat_tests}
use Rattle.su_desk_lines.specs.Script.{read_number}

third_fails : (a b c d : Bool) (n : ℕ) → c ≡ false → cond (a && b && c && d) (Some n) None ≡ None
third_fails true true true d n e = cc
third_fails true true false d n e = refl
third_fails true false c d n e = refl
third_fails false b c d n e = refl

last_fails : (c d : Bool) (n : ℕ) → d ≡ false → cond (c && d) (Some n) None ≡ None
last_fails true true n e = cc
last_fails true false n e = refl
last_fails false d n e = refl

all_pass : (a b c d : Bool) (n m : ℕ) → a ≡ true → b ≡ true → c ≡ true → d ≡ true → n ≡ m → cond (a && b && c && d) (Some n) None ≡ Some m
all_pass true true true true n m a b c d e = ap Some e
all_pass true true true false n m a b c d e = cc
all_pass true true false y n m a b c d e = cc
all_pass true false x y n m a b c d e = cc
all_pass false w x y n m a b c d e = cc

pub read_number-no_digits : (word : List ℕ) → list_all is_ascii_digit word ≡ false → read_number word ≡ None
unfolding read_number
read_number-no_digits word e = third_fails (nat_lt 0 (length word)) (nat_le (length word) 20) _ _ _ e

pub read_number-too_large : (word : List ℕ) → 2 ^ 64 ≤ digits_value 10 word → read_number word ≡ None
unfolding read_number
read_number-too_large word h = last_fails (nat_lt 0 (length word) && nat_le (length word) 20 && list_all is_ascii_digit word) _ _ (grind (arith, nat_tests))

pub read_number-digits : (word : List ℕ) (n : ℕ) → 0 < length word → length word ≤ 20 → list_all is_ascii_digit word ≡ true → digits_value 10 word ≡ n → n < 2 ^ 64 → read_number word ≡ Some n
unfolding read_number
read_number-digits word n some short digits value fits = all_pass (nat_lt 0 (length word)) (nat_le (length word) 20) _ _ _ _ (grind (arith, nat_tests)) (grind (arith, nat_tests)) digits (grind (arith, nat_tests)) value

-- further digits make no number less
pub digits_value_after-grows : (n : ℕ) (ds : List ℕ) → n ≤ digits_value_after 10 n ds
digits_value_after-grows n [] = omega arith
digits_value_after-grows n (d ∷ ds) = omega (arith, digits_value_after-grows (n * 10 + digit_value d) ds)

-- the next digit
pub digits_value_after-next : (n i : ℕ) (word : List ℕ) → i < length word → digits_value_after 10 n (drop i word) ≡ digits_value_after 10 (n * 10 + digit_value (get_or word i 0)) (drop (i + 1) word)
digits_value_after-next n i word within = rw (add-one, drop-cons word i 0) refl

-- where the value so far has no room for one digit more, the word is no number
pub read_number-no_room : (word : List ℕ) (n i d : ℕ) → i < length word → digits_value_after 10 n (drop i word) ≡ digits_value 10 word → digit_value (get_or word i 0) ≡ d → 2 ^ 64 ≤ n * 10 + d → read_number word ≡ None
read_number-no_room word n i d within value digit large =
    let grows = digits_value_after-grows (n * 10 + digit_value (get_or word i 0)) (drop (i + 1) word) in
    let next = digits_value_after-next n i word within in
    read_number-too_large word (omega (arith, grows, next))

pub digit_value-digit : (b : ℕ) → 48 ≤ b → b ≤ 57 → digit_value b ≡ b - 48
digit_value-digit b from to = grind (arith, nat_tests)
