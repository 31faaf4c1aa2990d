-- Who has a key in the roster is a user of it, and each user has one.
use Rattle.std.proofs.Common.{◌≡◌, ℕ, Bool, true, false, cond, List, [], ◌∷◌, nat_eq, refl, sym, ◌∙◌}
use Rattle.std.specs.Prelude.{Some, None, ◌||◌}
use Rattle.std.proofs.lemmas.Bool.{or_left, or_right}
use Rattle.su_bytes.specs.Membership.{Membership, has_number, has_user}
use Rattle.su_bytes.specs.RosterBytes.{key_in, user_key}

listed_at : (u : ℕ × List ℕ) (users : List (ℕ × List ℕ)) (a : ℕ) (key : List ℕ) → (key_in users a ≡ Some key → has_number users a ≡ true)
    → (b : Bool) → nat_eq u.0 a ≡ b → cond b (Some u.1) (key_in users a) ≡ Some key → has_number (u ∷ users) a ≡ true
listed_at u users a key later true here is = or_left (nat_eq u.0 a) (has_number users a) here
listed_at u users a key later false other is = or_right (nat_eq u.0 a) (has_number users a) (later is)

listed : (users : List (ℕ × List ℕ)) (a : ℕ) (key : List ℕ) → key_in users a ≡ Some key → has_number users a ≡ true
listed [] a key is = absurd cc
listed (u ∷ users) a key is = listed_at u users a key (listed users a key) (nat_eq u.0 a) refl is

unlisted_at : (u : ℕ × List ℕ) (users : List (ℕ × List ℕ)) (a : ℕ) → (key_in users a ≡ None → has_number users a ≡ false)
    → (b : Bool) → cond b (Some u.1) (key_in users a) ≡ None → (b || has_number users a) ≡ false
unlisted_at u users a later true is = absurd cc
unlisted_at u users a later false is = later is

unlisted : (users : List (ℕ × List ℕ)) (a : ℕ) → key_in users a ≡ None → has_number users a ≡ false
unlisted [] a is = refl
unlisted (u ∷ users) a is = unlisted_at u users a (unlisted users a) (nat_eq u.0 a) is

pub key_listed : (ro : Membership) (a : ℕ) (key : List ℕ) → user_key ro a ≡ Some key → has_user ro a ≡ true
key_listed ro a key is = listed ro.users a key is

pub user_has_key : (ro : Membership) (a : ℕ) → has_user ro a ≡ true → user_key ro a ≡ None → ⊥
user_has_key ro a member none = let clash : false ≡ true = sym (unlisted ro.users a none) ∙ member in absurd cc
