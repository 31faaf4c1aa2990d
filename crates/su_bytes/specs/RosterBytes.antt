-- The bytes of a roster, its digest, and the keys of its users. (This project's own format.)
use Rattle.std.specs.Prelude.{ℕ, cond, Option, Some, None, List, [], ◌∷◌, ◌++◌, length, codes, nat_eq}
use Rattle.std.specs.List.{flat_map}
use Rattle.sha2.specs.Sha256.{sha256}
use Rattle.su_bytes.specs.Membership.{Membership}

-- a user, and the key
abbrev pub user_bytes : ℕ × List ℕ → List ℕ
user_bytes u = u.0 ∷ u.1

-- a group, how many members it has, and these
abbrev pub members_bytes : ℕ × List ℕ → List ℕ
members_bytes g = g.0 ∷ (length g.1 ∷ g.1)

-- `SR01`; how many users there are, and each with the key; how many groups, and each with its
-- members
unfoldable pub roster_bytes : Membership → List ℕ
roster_bytes ro =
    codes "SR01" ++ (length ro.users ∷ (flat_map user_bytes ro.users
    ++ (length ro.groups ∷ flat_map members_bytes ro.groups)))

abbrev pub roster_digest : Membership → List ℕ
roster_digest ro = sha256 (roster_bytes ro)

-- ---- the keys of its users

-- the key that stands with the number a, if one does
abbrev pub key_in : List (ℕ × List ℕ) → ℕ → Option (List ℕ)
key_in [] a = None
key_in (u ∷ us) a = cond (nat_eq u.0 a) (Some u.1) (key_in us a)

-- the key of user a, if there is such a user
abbrev pub user_key : Membership → ℕ → Option (List ℕ)
user_key ro a = key_in ro.users a
