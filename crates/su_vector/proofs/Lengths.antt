-- The vector after a commit is as long as the roster has principals.
use Rattle.std.proofs.Common.{◌≡◌, ℕ, suc, List, [], ◌∷◌, length, refl, ap, arith}
use Rattle.su_bytes.specs.Membership.{Membership}
use Rattle.su_bytes.specs.Principal.{principals}
use Rattle.su_bytes.specs.declared.principals.Principal.{Principal}
use Rattle.su_vector.specs.Vector.{bump, numbers_after}

length-numbers_after : (ps : List Principal) (v : List ℕ) (a : ℕ) (gs : List ℕ) → length v ≡ length ps → length (numbers_after ps v a gs) ≡ length ps
length-numbers_after [] v a gs long = refl
length-numbers_after (p ∷ ps) [] a gs long = absurd (omega arith)
length-numbers_after (p ∷ ps) (n ∷ v) a gs long = ap suc (length-numbers_after ps v a gs (omega arith))

pub length-bump : (ro : Membership) (v : List ℕ) (a : ℕ) (gs : List ℕ) → length v ≡ length (principals ro) → length (bump ro v a gs) ≡ length (principals ro)
unfolding bump
length-bump ro v a gs long = length-numbers_after (principals ro) v a gs long
