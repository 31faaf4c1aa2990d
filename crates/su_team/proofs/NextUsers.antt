-- Which user may come next, by what stands at the front of the bytes that are left.
use Rattle.std.proofs.Common.{◌≡◌, ℕ, zero, suc, ◌+◌, ◌<◌, ◌≤◌, true, false, List, [], ◌∷◌, ◌++◌, length, take, drop, Some, refl, sym, ap, subst, ◌∙◌, inl, inr, arith}
use Rattle.std.specs.Prelude.{All, ◌≢◌, slice_index}
use Rattle.std.specs.List.{list_all, slice_get}
use Rattle.std.specs.Option.{option_map}
use Rattle.std.proofs.lemmas.Bool.{and_parts}
use Rattle.std.proofs.lemmas.List.{get_or_append_left, drop-drop, get_or_push, length-append, length_push}
use Rattle.std.proofs.lemmas.List.Elements.{All-push}
use Rattle.std.proofs.lemmas.List.Quantifiers.{all_pairs_push}
use Rattle.std.proofs.lemmas.Option.{slice_get_cases}
use Rattle.hex.specs.Hex.{encode_lower}
use Rattle.su_team.specs.Team.{AreUsers, IsKey, IsUser, is_name_byte, is_user_name, name_at, user_line}
use Rattle.su_team.specs.WrongLine.{GoesOn, TakesUser}
use Rattle.su_team.proofs.UserLines.{digits_of_key, in_name, line_behind, same_names, space_in_none}

-- the front of a name is its bytes
pub front_of_name : (name rest : List ℕ) (n : ℕ) → list_all is_name_byte name ≡ true
    → list_all is_name_byte (take n (name ++ 32 ∷ rest)) ≡ true → n ≤ length (name ++ 32 ∷ rest)
    → (n < length (name ++ 32 ∷ rest) → is_name_byte (slice_index (name ++ 32 ∷ rest) n) ≡ false) → n ≡ length name
front_of_name [] rest zero in_all front within ends = refl
front_of_name [] rest (suc n) in_all front within ends =
    absurd (space_in_none 32 (and_parts (is_name_byte 32) (list_all is_name_byte (take n rest)) front).0 refl)
front_of_name (c ∷ name) rest zero in_all front within ends =
    let no = ends (omega arith) in
    let yes = (and_parts (is_name_byte c) (list_all is_name_byte name) in_all).0 in absurd (cc (no, yes))
front_of_name (c ∷ name) rest (suc n) in_all front within ends =
    let same = front_of_name name rest n (and_parts (is_name_byte c) (list_all is_name_byte name) in_all).1
    (and_parts (is_name_byte c) (list_all is_name_byte (take n (name ++ 32 ∷ rest))) front).1 (omega arith) (λ below. ends (omega arith)) in
    omega (arith, same)

pub front_of_bytes : (bytes name rest : List ℕ) (n : ℕ) → bytes ≡ name ++ 32 ∷ rest → list_all is_name_byte name ≡ true
    → list_all is_name_byte (take n bytes) ≡ true → n ≤ length bytes → (n < length bytes → is_name_byte (slice_index bytes n) ≡ false) → n ≡ length name
front_of_bytes bytes name rest n is in_all =
    subst (λ (it : List ℕ). list_all is_name_byte (take n it) ≡ true → n ≤ length it → (n < length it → is_name_byte (slice_index it n) ≡ false) → n ≡ length name)
    (sym is) (front_of_name name rest n in_all)

-- ---- the user that comes next has the name which stands there

known_last : (users : List (List ℕ × List ℕ)) (user : List ℕ × List ℕ) → AreUsers (users ++ user ∷ []) → IsUser user
known_last users user are = let last = are.known (length users) user (rw (length_push users user) (omega arith)) in rw (get_or_push users user user (length users) refl) at last

-- what comes next, behind a name and a space
pub record Next (users : List (List ℕ × List ℕ)) (name rest : List ℕ) : Type 0 where
  pub key : List ℕ
  pub behind : List ℕ
  pub are_users : AreUsers (users ++ (name, key) ∷ [])
  pub is_key : IsKey key
  pub rest_is : rest ≡ encode_lower key ++ 10 ∷ behind

pub next_of : (users : List (List ℕ × List ℕ)) (name rest : List ℕ) → is_user_name name ≡ true → GoesOn users (name ++ 32 ∷ rest) → Next users name rest
next_of users name rest is on =
    let known = known_last users on.user on.are_users in
    let spread = on.line ∙ line_behind on.user on.behind in
    let same = same_names name on.user.0 rest (encode_lower on.user.1 ++ 10 ∷ on.behind) (in_name name is) (in_name on.user.0 known.name) spread in
    record {
      key = on.user.1;
      behind = on.behind;
      are_users = subst (λ (it : List ℕ). AreUsers (users ++ (it, on.user.1) ∷ [])) (sym same.0) on.are_users;
      is_key = known.key;
      rest_is = same.1;
    }

pub name_taken : (users : List (List ℕ × List ℕ)) (name rest : List ℕ) (n : ℕ) → is_user_name name ≡ true → name_at users n ≡ Some name → GoesOn users (name ++ 32 ∷ rest) → ⊥
name_taken users name rest n is at on =
    let next = next_of users name rest is on in
    elim ((slice_get_cases users n).1) [
      | inl there ↦
          let user = there.0 in
          let apart = next.are_users.apart n (length users) user there.1 (rw (length_push users (name, next.key)) (omega arith)) in
          let last = get_or_push users (name, next.key) user (length users) refl in
          let mine = get_or_append_left users ((name, next.key) ∷ []) user n there.1 ∙ there.3 in
          apart (ap (λ it. it.0) mine ∙ named user there.2 ∙ sym (ap (λ it. it.0) last))
      | inr past ↦ let none = past.1 in absurd (cc (ap (option_map (λ (it : List ℕ × List ℕ). it.0)) none, at))
    ] where
      named : (user : List ℕ × List ℕ) → slice_get users n ≡ Some user → user.0 ≡ name
      named user there = cc (ap (option_map (λ (it : List ℕ × List ℕ). it.0)) there, at)

pub no_key : (users : List (List ℕ × List ℕ)) (name rest : List ℕ) → is_user_name name ≡ true
    → ((key behind : List ℕ) → IsKey key → rest ≡ encode_lower key ++ 10 ∷ behind → ⊥) → GoesOn users (name ++ 32 ∷ rest) → ⊥
no_key users name rest is none on = let next = next_of users name rest is on in none next.key next.behind next.is_key next.rest_is

-- ---- a user that comes next is taken

are_more : (users : List (List ℕ × List ℕ)) (user : List ℕ × List ℕ) → AreUsers users → length users ≤ 63 → All (λ u. u.0 ≢ user.0) users → IsUser user → AreUsers (users ++ user ∷ [])
are_more users user are few apart is = record {
  few = rw (length_push users user) (omega arith);
  known = All-push IsUser users user are.known is;
  apart = all_pairs_push (λ u v. u.0 ≢ v.0) users user are.apart apart;
}

pub takes_next : (users : List (List ℕ × List ℕ)) (name key left : List ℕ) (n : ℕ) → AreUsers users → length users ≤ 63 → All (λ u. u.0 ≢ name) users
    → is_user_name name ≡ true → IsKey key → length name ≡ n → left ≡ name ++ 32 ∷ drop (n + 1) left
    → drop (n + 1) left ≡ encode_lower key ++ 10 ∷ drop 113 (drop (n + 1) left)
    → TakesUser users (users ++ (name, key) ∷ []) left (n + 112 + 2)
takes_next users name key left n are few apart named keyed long left_is rest_is = record {
  user = (name, key);
  is_last = refl;
  are_users = are_more users (name, key) are few apart (record { name = named; key = keyed });
  line = whole ∙ ap (λ it. user_line (name, key) ++ it) behind;
  some_byte = omega arith;
  within = omega (arith, lengths, digits, long, simp length-append at lengths);
} where
  digits : length (encode_lower key) ≡ 112
  digits = digits_of_key key keyed

  rest : List ℕ
  rest = drop 113 (drop (n + 1) left)

  spread : left ≡ name ++ 32 ∷ (encode_lower key ++ 10 ∷ drop 113 (drop (n + 1) left))
  spread = left_is ∙ ap (λ it. name ++ 32 ∷ it) rest_is

  whole : left ≡ user_line (name, key) ++ drop 113 (drop (n + 1) left)
  whole = spread ∙ sym (line_behind (name, key) (drop 113 (drop (n + 1) left)))

  lengths : length left ≡ length (name ++ 32 ∷ (encode_lower key ++ 10 ∷ drop 113 (drop (n + 1) left)))
  lengths = ap length spread

  behind : drop 113 (drop (n + 1) left) ≡ drop (n + 112 + 2) left
  behind = drop-drop 113 (n + 1) left ∙ ap (λ (it : ℕ). drop it left) (omega arith)
