-- The names of a team.
use Rattle.std.proofs.Common.{◌≡◌, ◌∙◌, ℕ, ◌+◌, ◌<◌, true, List, [], ◌∷◌, length, drop, get_or, max, Some, None, Option, cond, refl, sym, ap, inl, inr, arith}
use Rattle.std.specs.Prelude.{◌&&◌, not, nat_le, option_map, unwrap_or}
use Rattle.std.specs.List.{list_all, slice_get}
use Rattle.std.specs.declared.cmp.Ordering.TheVariants.{Less, Equal, Greater}
use Rattle.std.specs.Cmp.{nat_cmp_is}
use Rattle.std.specs.Ordering.{is_lt, nat_cmp, ord_max}
use Rattle.std.specs.Str.{IsAscii}
use Rattle.std.proofs.lemmas.Bool.{and_parts, cases_lt}
use Rattle.std.proofs.lemmas.Bool.Decides.{nat_tests}
use Rattle.std.proofs.lemmas.List.{drop_more}
use Rattle.std.proofs.lemmas.List.Elements.{All-weaker}
use Rattle.std.proofs.lemmas.List.Sums.{AllPass-from_list_all}
use Rattle.std.proofs.lemmas.Option.{slice_get-get_or, slice_get_within}
use Rattle.std.proofs.lemmas.Str.Ascii.{IsAscii-from_all}
use Rattle.su_spelling.specs.Shown.{is_control}
use Rattle.su_team.specs.Team.{IsTeam, is_name_byte, is_user_name, name_at}
use Rattle.su_history_text.specs.Parts.{longest_name, stays_on_line}

abbrev Users : Type 0
Users = List (List ℕ × List ℕ)

-- ---- they are ASCII, and stay on their line

user_at : (users : Users) (n : ℕ) (name : List ℕ) (o : Option (List ℕ × List ℕ)) → slice_get users n ≡ o → option_map (λ (u : List ℕ × List ℕ). u.0) o ≡ Some name → (u : List ℕ × List ℕ) × (slice_get users n ≡ Some u) × (u.0 ≡ name)
user_at users n name None is at = absurd (cc at)
user_at users n name (Some u) is at = (u, is, cc at)

pub is_named : (team : Users) (n : ℕ) (name : List ℕ) → IsTeam team → name_at team n ≡ Some name → is_user_name name ≡ true
is_named team n name is at =
    let user = user_at team n name (slice_get team n) refl at in
    let within = slice_get_within team n user.0 user.1 in
    let here : get_or team n user.0 ≡ user.0 = cc (slice_get-get_or team n user.0 within, user.1) in
    let known = (is.are_users.known n user.0 within).name in
    sym (ap (λ (u : List ℕ × List ℕ). is_user_name u.0) here ∙ ap is_user_name user.2) ∙ known

byte_stays : (b : ℕ) → is_name_byte b ≡ true → not (is_control b) ≡ true
byte_stays b is = grind (arith, nat_tests, is)

bytes_stay : (name : List ℕ) → list_all is_name_byte name ≡ true → stays_on_line name ≡ true
bytes_stay [] is = refl
bytes_stay (b ∷ name) is =
    let parts = and_parts (is_name_byte b) (list_all is_name_byte name) is in
    ap (λ s. s && stays_on_line name) (byte_stays b parts.0) ∙ bytes_stay name parts.1

name_bytes : (name : List ℕ) → is_user_name name ≡ true → list_all is_name_byte name ≡ true
name_bytes name is = (and_parts (nat_le 1 (length name) && nat_le (length name) 32) (list_all is_name_byte name) is).1

pub user_name_stays : (name : List ℕ) → is_user_name name ≡ true → stays_on_line name ≡ true
user_name_stays name is = bytes_stay name (name_bytes name is)

ascii_byte : (b : ℕ) → is_name_byte b ≡ true → b < 128
ascii_byte b is = grind (arith, nat_tests, is)

pub user_name_ascii : (name : List ℕ) → is_user_name name ≡ true → IsAscii name
user_name_ascii name is =
    IsAscii-from_all name (All-weaker (λ b. is_name_byte b ≡ true) (λ b. b < 128) ascii_byte name (AllPass-from_list_all is_name_byte name (name_bytes name is)))

-- ---- the longest one

pub max_by_cmp : (a b : ℕ) → ord_max nat_cmp a b ≡ max a b
max_by_cmp a b = elim (cases_lt b a) [
  | inl less ↦ ap (λ o. cond (is_lt o) a b) (sym (nat_cmp_is b a Less less)) ∙ omega (arith, less)
  | inr other ↦ elim (cases_lt a b) [
    | inl more ↦ ap (λ o. cond (is_lt o) a b) (sym (nat_cmp_is b a Greater more)) ∙ omega (arith, more)
    | inr same ↦ ap (λ o. cond (is_lt o) a b) (sym (nat_cmp_is b a Equal (omega (arith, other, same)))) ∙ omega (arith, other)
  ]
]

-- with the user of number n, whose name has so many bytes
pub longest_more : (team : Users) (n so_far : ℕ) (name_len : ℕ) → n < length team → name_len ≡ length (unwrap_or (name_at team n) [])
    → max so_far (longest_name (drop n team)) ≡ longest_name team
    → max (max so_far name_len) (longest_name (drop (n + 1) team)) ≡ longest_name team
longest_more team n so_far name_len within is before =
    let u = get_or team n ([], []) in
    let more : drop n team ≡ u ∷ drop (n + 1) team = drop_more team n ([], []) within in
    let here : name_len ≡ length u.0 = is ∙ ap (λ (o : Option (List ℕ × List ℕ)). length (unwrap_or (option_map (λ (v : List ℕ × List ℕ). v.0) o) [])) (slice_get-get_or team n ([], []) within) in
    let rest = ap longest_name more in
    omega (arith, before, here, rest)
