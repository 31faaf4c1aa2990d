-- What users in memory tell, one by one.
use Rattle.std.proofs.Common.{◌≡◌, ◌<◌, ℕ, zero, suc, List, [], ◌∷◌, ◌++◌, map, length, Option, Some, None, refl, ap, ◌∙◌, arith}
use Rattle.std.specs.Prelude.{All, MatchOption, ◌≢◌, option_map}
use Rattle.std.specs.List.{flat_map, slice_get}
use Rattle.std.proofs.lemmas.List.Elements.{All-map}
use Rattle.std.proofs.lemmas.Option.{slice_get-map}
use Rattle.su_team.specs.declared.lines.TeamUser.{TeamUser}
use Rattle.su_team.specs.Team.{name_at, user_line, user_lines}
use Rattle.su_team.specs.TeamUsers.{told, users_of}

pub name_at-users_of : (users : List TeamUser) (n : ℕ) → name_at (users_of users) n ≡ option_map (λ u. (told u).0) (slice_get users n)
name_at-users_of users n = ap (option_map (λ (u : List ℕ × List ℕ). u.0)) (slice_get-map told users n) ∙ at (slice_get users n) where
  at : (o : Option TeamUser) → option_map (λ (u : List ℕ × List ℕ). u.0) (option_map told o) ≡ option_map (λ u. (told u).0) o
  at None = refl
  at (Some u) = refl

pub apart_from : (users : List TeamUser) (name : List ℕ) → All (λ u. (told u).0 ≢ name) users → All (λ u. u.0 ≢ name) (users_of users)
apart_from users name all = All-map (λ u. u.0 ≢ name) told users all

pub keys-users_of : (users : List TeamUser) → map (λ u. u.1) (users_of users) ≡ map (λ u. (told u).1) users
keys-users_of [] = refl
keys-users_of (u ∷ users) = ap (λ it. (told u).1 ∷ it) (keys-users_of users)

pub lines-users_of : (users : List TeamUser) → user_lines (users_of users) ≡ flat_map (λ u. user_line (told u)) users
lines-users_of [] = refl
lines-users_of (u ∷ users) = ap (λ it. user_line (told u) ++ it) (lines-users_of users)

pub named_within : (users : List TeamUser) (name : List ℕ) (n : ℕ) → option_map (λ u. (told u).0) (slice_get users n) ≡ Some name → n < length (users_of users)
named_within [] name n at = absurd (cc at)
named_within (u ∷ users) name zero at = omega arith
named_within (u ∷ users) name (suc n) at = let within = named_within users name n at in omega (arith, within)

pub none_has : (o : Option ℕ) (users : List (List ℕ × List ℕ)) (name : List ℕ) → o ≡ None → All (λ u. u.0 ≢ name) users
    → MatchOption o (All (λ u. u.0 ≢ name) users) (λ n. name_at users n ≡ Some name)
none_has None users name is apart = apart
none_has (Some n) users name is apart = absurd (cc is)

pub no_lines : (users : List TeamUser) → length users ≡ 0 → user_lines (users_of users) ≡ []
no_lines [] none = refl
no_lines (u ∷ users) none = absurd (omega arith)
