-- No line of a user begins another one, and lists of users are told apart by their lines.
use Rattle.std.proofs.Common.{◌≡◌, ℕ, ◌≤◌, true, List, [], ◌∷◌, ◌++◌, length, Ok, refl, sym, ap, ◌∙◌, inl, inr, arith}
use Rattle.std.specs.Prelude.{◌&&◌, nat_le}
use Rattle.std.specs.List.{list_all}
use Rattle.std.proofs.lemmas.Bool.{and_parts, cases_lt, leb-true}
use Rattle.std.proofs.lemmas.Bool.Decides.{nat_tests}
use Rattle.std.proofs.lemmas.List.{append_assoc, get_or_past, length-append}
use Rattle.hex.specs.Hex.{IsBytes, decode_of, decode_sized, encode_lower, lower_digits}
use Rattle.hex.proofs.HexLemmas.{decode_of-encode_lower, decode_sized-encode_lower, length-encode_with}
use Rattle.su_team.specs.Team.{IsKey, IsUser, is_name_byte, is_user_name, user_line}

-- two fronts of one length
pub same_fronts : (a b x y : List ℕ) → length a ≡ length b → a ++ x ≡ b ++ y → (a ≡ b) × (x ≡ y)
same_fronts [] [] x y long e = (refl, e)
same_fronts [] (d ∷ b) x y long e = absurd (omega arith)
same_fronts (c ∷ a) [] x y long e = absurd (omega arith)
same_fronts (c ∷ a) (d ∷ b) x y long e =
    let first : c ≡ d = cc in
    let behind : a ++ x ≡ b ++ y = cc in
    let same = same_fronts a b x y (omega arith) behind in
    let front : a ≡ b = same.0 in
    (cc, same.1)

-- a space is in no name
pub space_in_none : (c : ℕ) → is_name_byte c ≡ true → c ≡ 32 → ⊥
space_in_none c byte is = grind (arith, nat_tests, byte, is)

pub same_names : (a b x y : List ℕ) → list_all is_name_byte a ≡ true → list_all is_name_byte b ≡ true → a ++ 32 ∷ x ≡ b ++ 32 ∷ y → (a ≡ b) × (x ≡ y)
same_names [] [] x y in_a in_b e = (refl, cc)
same_names [] (d ∷ b) x y in_a in_b e = absurd (space_in_none d (and_parts (is_name_byte d) (list_all is_name_byte b) in_b).0 cc)
same_names (c ∷ a) [] x y in_a in_b e = absurd (space_in_none c (and_parts (is_name_byte c) (list_all is_name_byte a) in_a).0 cc)
same_names (c ∷ a) (d ∷ b) x y in_a in_b e =
    let behind : a ++ 32 ∷ x ≡ b ++ 32 ∷ y = cc in
    let same = same_names a b x y (and_parts (is_name_byte c) (list_all is_name_byte a) in_a).1 (and_parts (is_name_byte d) (list_all is_name_byte b) in_b).1 behind in
    let front : a ≡ b = same.0 in
    (cc, same.1)

bytes_of : (key : List ℕ) → IsKey key → IsBytes key
bytes_of key is i = elim (cases_lt i (length key)) [ inl within ↦ is.bytes i 0 within | inr past ↦ rw (get_or_past key i 0 past) (omega arith) ]

pub digits_of_key : (key : List ℕ) → IsKey key → length (encode_lower key) ≡ 112
digits_of_key key is = let size = is.size in let long = length-encode_with lower_digits key in omega (arith, size, long)

pub decoded_key : (key : List ℕ) → IsKey key → decode_of (encode_lower key) ≡ Ok key
decoded_key key is = decode_of-encode_lower key (bytes_of key is)

pub same_keys : (k l x y : List ℕ) → IsKey k → IsKey l → encode_lower k ++ 10 ∷ x ≡ encode_lower l ++ 10 ∷ y → (k ≡ l) × (x ≡ y)
same_keys k l x y is_k is_l e =
    let long : length (encode_lower k) ≡ length (encode_lower l) = digits_of_key k is_k ∙ sym (digits_of_key l is_l) in
    let same = same_fronts (encode_lower k) (encode_lower l) (10 ∷ x) (10 ∷ y) long e in
    let decoded = sym (decoded_key k is_k) ∙ ap decode_of same.0 ∙ decoded_key l is_l in
    let behind = same.1 in
    (cc (decoded), cc (behind))

pub in_name : (name : List ℕ) → is_user_name name ≡ true → list_all is_name_byte name ≡ true
in_name name is = (and_parts (nat_le 1 (length name) && nat_le (length name) 32) (list_all is_name_byte name) is).1

pub name_size : (name : List ℕ) → is_user_name name ≡ true → (1 ≤ length name) × (length name ≤ 32)
name_size name is =
    let parts = and_parts (nat_le 1 (length name) && nat_le (length name) 32) (list_all is_name_byte name) is in
    let sizes = and_parts (nat_le 1 (length name)) (nat_le (length name) 32) parts.0 in
    (leb-true 1 (length name) sizes.0, leb-true (length name) 32 sizes.1)

-- the line with what is behind it, as name and rest
pub line_behind : (u : List ℕ × List ℕ) (x : List ℕ) → user_line u ++ x ≡ u.0 ++ 32 ∷ (encode_lower u.1 ++ 10 ∷ x)
line_behind u x =
    append_assoc u.0 (32 ∷ (encode_lower u.1 ++ 10 ∷ [])) x
    ∙ ap (λ it. u.0 ++ 32 ∷ it) (append_assoc (encode_lower u.1) (10 ∷ []) x)

pub same_lines : (u v : List ℕ × List ℕ) (x y : List ℕ) → IsUser u → IsUser v → user_line u ++ x ≡ user_line v ++ y → (u ≡ v) × (x ≡ y)
same_lines u v x y is_u is_v e =
    let spread = sym (line_behind u x) ∙ e ∙ line_behind v y in
    let names = same_names u.0 v.0 (encode_lower u.1 ++ 10 ∷ x) (encode_lower v.1 ++ 10 ∷ y) (in_name u.0 is_u.name) (in_name v.0 is_v.name) spread in
    let keys = same_keys u.1 v.1 x y is_u.key is_v.key names.1 in
    (pair_of u v names.0 keys.0, keys.1) where
      pair_of : (u v : List ℕ × List ℕ) → u.0 ≡ v.0 → u.1 ≡ v.1 → u ≡ v
      pair_of u v name key = ap (λ it. (it, u.1)) name ∙ ap (λ it. (v.0, it)) key

-- a line is some bytes
pub some_line : (u : List ℕ × List ℕ) (x : List ℕ) → user_line u ++ x ≡ [] → ⊥
some_line u x e = let long = ap length (sym (line_behind u x) ∙ e) in absurd (omega (arith, simp length-append at long))

-- what the digits of a key are read as
pub sized_key : (key digits : List ℕ) → IsKey key → digits ≡ encode_lower key → decode_sized digits 56 ≡ Ok key
sized_key key digits is e = ap (λ it. decode_sized it 56) e ∙ decode_sized-encode_lower key 56 is.size (bytes_of key is)
