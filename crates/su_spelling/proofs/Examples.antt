-- Worked examples of the definitions.
use Rattle.std.proofs.Common.{◌≡◌, [], ◌∷◌, Some, None, codes, refl}
use Rattle.std.specs.Str.{chars, is_utf8}
use lib.Utf8.{encode}
use Rattle.hex.specs.Hex.{decode_pairs, encode_with}
use Rattle.su_spelling.specs.Shown.{shown}
use Rattle.su_spelling.specs.Read.{path_read, read}

-- a letter, a tab, a backslash, and a byte that no text has
a_tab_a_backslash_and_0xff : shown (97 ∷ 9 ∷ 92 ∷ 255 ∷ []) ≡ codes "a\\x09\\x5c\\xff"
unfolding is_utf8 chars encode encode_with
a_tab_a_backslash_and_0xff = refl

it_is_read_back : read (codes "a\\x09\\x5c\\xff") ≡ Some (97 ∷ 9 ∷ 92 ∷ 255 ∷ [])
unfolding decode_pairs
it_is_read_back = refl

-- `é`, of two bytes, stands as it is; its first byte alone doesn't, nor does its second
a_character : shown (195 ∷ 169 ∷ []) ≡ 195 ∷ 169 ∷ []
unfolding is_utf8 chars encode
a_character = refl

half_a_character : shown (195 ∷ 47 ∷ 169 ∷ []) ≡ codes "\\xc3/\\xa9"
unfolding is_utf8 chars encode encode_with
half_a_character = refl

-- of a character of four bytes the first three
a_cut_character : shown (240 ∷ 159 ∷ 152 ∷ []) ≡ codes "\\xf0\\x9f\\x98"
unfolding is_utf8 chars encode encode_with
a_cut_character = refl

a_whole_one : shown (240 ∷ 159 ∷ 152 ∷ 128 ∷ 10 ∷ []) ≡ 240 ∷ 159 ∷ 152 ∷ 128 ∷ codes "\\x0a"
unfolding is_utf8 chars encode encode_with
a_whole_one = refl

-- a `/` in two bytes, which no text has
a_long_slash : shown (192 ∷ 175 ∷ []) ≡ codes "\\xc0\\xaf"
unfolding is_utf8 chars encode encode_with
a_long_slash = refl

upper_case_digits : read (codes "\\xC3\\xa9") ≡ Some (195 ∷ 169 ∷ [])
unfolding decode_pairs
upper_case_digits = refl

a_backslash_alone : read (codes "a\\b") ≡ None
a_backslash_alone = refl

an_escape_with_one_digit : read (codes "\\x5") ≡ None
an_escape_with_one_digit = refl

an_escape_with_another_letter : read (codes "\\x5g") ≡ None
unfolding decode_pairs
an_escape_with_another_letter = refl

a_path_without_its_slash : path_read (codes "report/plan") ≡ Some (codes "/report/plan")
a_path_without_its_slash = refl

a_path_with_it : path_read (codes "/report/plan") ≡ Some (codes "/report/plan")
a_path_with_it = refl

-- nothing is the root
the_root : path_read [] ≡ Some (codes "/")
the_root = refl
