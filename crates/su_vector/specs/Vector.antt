-- Version vectors: a number for each principal of the roster, the users and then the groups.
-- (SUNDR, section 3.3: their order.)
use Rattle.std.specs.Prelude.{ℕ, ◌+◌, Bool, cond, List, [], ◌∷◌, Option, Some, None, map, nat_eq, nat_le}
use Rattle.std.specs.List.{list_any}
use Rattle.std.specs.Cmp.Lexicographic.{pointwise}
use Rattle.su_bytes.specs.Membership.{Membership}
use Rattle.su_bytes.specs.Principal.{principals}
use Rattle.su_bytes.specs.declared.principals.Principal.{Principal}
use Rattle.su_bytes.specs.declared.principals.Principal.TheVariants.{User, Group}

-- before the first commit all numbers are 0
abbrev pub zeros : Membership → List ℕ
zeros ro = map (λ p. 0) (principals ro)

-- the number at the place of user u among these
abbrev pub number_in : List (ℕ × List ℕ) → List ℕ → ℕ → Option ℕ
number_in (x ∷ users) (n ∷ v) u = cond (nat_eq x.0 u) (Some n) (number_in users v u)
number_in _ _ u = None

-- the number of user u of the roster; none where there is no such user, or the vector lacks it
abbrev pub number_of : Membership → List ℕ → ℕ → Option ℕ
number_of ro v u = number_in ro.users v u

-- the vectors are as long, and no number is greater than the one at the same place
abbrev pub le : List ℕ → List ℕ → Bool
le v w = pointwise nat_le v w

-- a commit by user a that carries these groups concerns the principal
abbrev pub concerns : ℕ → List ℕ → Principal → Bool
concerns a gs (User u) = nat_eq u a
concerns a gs (Group g) = list_any (nat_eq g) gs

-- the number of a principal after a commit by user a that carries these groups
abbrev pub number_after : ℕ → List ℕ → Principal → ℕ → ℕ
number_after a gs p n = n + cond (concerns a gs p) 1 0

abbrev pub numbers_after : List Principal → List ℕ → ℕ → List ℕ → List ℕ
numbers_after (p ∷ ps) (n ∷ ns) a gs = number_after a gs p n ∷ numbers_after ps ns a gs
numbers_after _ _ a gs = []

-- the vector after a commit by user a that carries these groups: their numbers are one higher
unfoldable pub bump : Membership → List ℕ → ℕ → List ℕ → List ℕ
bump ro v a gs = numbers_after (principals ro) v a gs
