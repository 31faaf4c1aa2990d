-- How the bytes of a script fall into lines and words, and what single words say.
use Rattle.std.specs.Prelude.{ℕ, ◌+◌, ◌^◌, Bool, ◌&&◌, List, [], ◌∷◌, length, take, drop, Option, None, Some, cond, nat_eq, nat_lt, nat_le}
use Rattle.std.specs.List.{list_any, list_all, onto_first, slice_split, position}
use Rattle.std.specs.Option.{option_and_then, option_map}
use Rattle.std.specs.Char.{is_ascii_digit}
use Rattle.std.specs.Result.{result_ok}
use Rattle.hex.specs.Hex.{decode_of, decode_sized}
use Rattle.std.specs.Str.Parse.{digits_value}
use Rattle.std.specs.Cmp.Lexicographic.{pointwise}
use Rattle.su_bytes.specs.declared.rosters.TheConstants.{KEY_LENGTH}
use Rattle.su_bytes.specs.declared.file_ids.FileId.{FileId}
use Rattle.su_bytes.specs.declared.file_ids.FileId.TheVariants.{User, Group}
use Rattle.su_bytes.specs.declared.principals.Principal.{Principal}
use Rattle.su_bytes.specs.declared.principals.Principal.TheVariants as principal

-- ---- lines and words

-- bytes of the longest line, its end not counted
abbrev pub longest_line : ℕ
longest_line = 140000

-- the lines of a script: each ends at a line feed, and a last line without an end counts
abbrev pub lines_of : List ℕ → List (List ℕ)
lines_of [] = []
lines_of (b ∷ bs) = cond (nat_eq b 10) ([] ∷ lines_of bs) (onto_first b (lines_of bs))

-- the words of a line, between single spaces
abbrev pub words_of : List ℕ → List (List ℕ)
words_of line = slice_split (λ b. nat_eq b 32) line

abbrev pub has_empty_word : List (List ℕ) → Bool
has_empty_word words = list_any (λ word. nat_eq (length word) 0) words

abbrev pub is_word : List ℕ → List ℕ → Bool
is_word word text = pointwise nat_eq word text

-- ---- single words

-- what the first gives is read on; nothing where it gives nothing
abbrev pub given : {A B : Type 0} → Option A → (A → Option B) → Option B
given first next = option_and_then next first

-- what each one gives, where all give something
abbrev pub each_given : {A B : Type 0} → (A → Option B) → List A → Option (List B)
each_given f [] = Some []
each_given f (x ∷ xs) = given (f x) (λ y. option_map (λ ys. y ∷ ys) (each_given f xs))

-- 1 to 20 decimal digits, whose value fits 64 bits
abbrev pub is_number : List ℕ → Bool
is_number word =
    nat_lt 0 (length word) && nat_le (length word) 20 && list_all is_ascii_digit word
    && nat_lt (digits_value 10 word) (2 ^ 64)

unfoldable pub read_number : List ℕ → Option ℕ
read_number word = cond (is_number word) (Some (digits_value 10 word)) None

-- `U2` is a user, `G2` a group
unfoldable pub read_principal : List ℕ → Option Principal
read_principal [] = None
read_principal (b ∷ digits) =
    cond (nat_eq b 85) (option_map (λ u. principal.User u) (read_number digits))
    (cond (nat_eq b 71) (option_map (λ g. principal.Group g) (read_number digits)) None)

-- the file with a number of a user or a group
abbrev pub numbered_file : Principal → ℕ → FileId
numbered_file (principal.User u) i = User u i
numbered_file (principal.Group g) k = Group g k

-- `U2:3` is a user's file, `G2:3` a group's
unfoldable pub read_file : List ℕ → Option FileId
read_file word =
    given (position (λ b. nat_eq b 58) word) (λ colon.
    given (read_principal (take colon word)) (λ owner.
    option_map (λ number. numbered_file owner number) (read_number (drop (colon + 1) word))))

-- the bytes that hex digits of either case write, two digits a byte
unfoldable pub read_bytes : List ℕ → Option (List ℕ)
read_bytes word = result_ok (decode_of word)

-- the bytes of a public key that so many hex digits write
unfoldable pub read_key : List ℕ → Option (List ℕ)
read_key word = result_ok (decode_sized word KEY_LENGTH)
