-- What a client notices of a list from the last commits of the users that are shown to it. (SUNDR,
-- section 3.3; what is noticed is this project's own.)
use Rattle.std.specs.Prelude.{◌≡◌, ◌≤◌, ℕ, false, List, Some, take}
use Rattle.std.specs.List.{Contains}
use Rattle.su_vector.specs.Vector.{le}
use Rattle.su_version.specs.Commit.{Commit}
use Rattle.su_legal.specs.Legal.{Committed, author_of}
use Rattle.su_fork.specs.Numbered.{at}

-- each commit that is shown is one of the list
abbrev pub AreOf : List Committed → List Commit → Type 0
AreOf list shown =
    (c : Commit) → Contains shown c → (d : Committed) × Contains list d × (d.commit ≡ c)

-- the list has all that is held up to commit c
pub record HasUpTo (c : Committed) (held list : List Committed) : Type 0 where
  pub number : ℕ
  pub there : at held number ≡ Some c
  pub same : take number list ≡ take number held

-- No commit of the list is above, in the order of vectors, one of user u that is held with number n
-- or a greater one.
abbrev pub NoneIsAbove : ℕ → ℕ → List Committed → List Committed → Type 0
NoneIsAbove u n held list =
    (m k : ℕ) (c d : Committed) → n ≤ m → at held m ≡ Some c → author_of c ≡ u → at list k ≡ Some d
    → le c.commit.version.vector d.commit.version.vector ≡ false

-- Of the commits with number n or a greater one, none of user u in the first list is comparable
-- with one of user v in the second.
abbrev pub NoneComparable : ℕ → ℕ → ℕ → List Committed → List Committed → Type 0
NoneComparable u v n xs ys =
    (m k : ℕ) (c d : Committed) → n ≤ m → at xs m ≡ Some c → author_of c ≡ u
    → n ≤ k → at ys k ≡ Some d → author_of d ≡ v
    → (le c.commit.version.vector d.commit.version.vector ≡ false)
    × (le d.commit.version.vector c.commit.version.vector ≡ false)
