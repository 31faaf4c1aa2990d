-- What honest users can rely on, whatever a server shows them. (SUNDR, section 3.2: fork
-- consistency.)
use Rattle.std.specs.Prelude.{◌≡◌, ◌≢◌, ◌≤◌, ◌-◌, ℕ, List, ◌∷◌, ◌++◌, Some, take}
use Rattle.su_version.specs.Version.{Version}
use Rattle.su_legal.specs.Legal.{Committed, author_of}
use Rattle.su_fork.specs.Numbered.{at, DifferAt}
use Rattle.su_fork.specs.Events.{World, Event, signing, list_of}

-- ---- what two lists share

-- Lists that hold one commit, version structure and signature, hold it at one number, and are equal
-- up to it.
abbrev pub SharedUpTo : List Committed → List Committed → Type 0
SharedUpTo xs ys =
    (m n : ℕ) (c d : Committed) → at xs m ≡ Some c → at ys n ≡ Some d → c.commit ≡ d.commit
    → (m ≡ n) × (take m xs ≡ take n ys)

-- Lists that hold one version structure, by whatever signatures, hold it at one number, and are
-- equal before it.
abbrev pub SharedBefore : List Committed → List Committed → Type 0
SharedBefore xs ys =
    (m n : ℕ) (c d : Committed) → at xs m ≡ Some c → at ys n ≡ Some d
    → c.commit.version ≡ d.commit.version → (m ≡ n) × (take (m - 1) xs ≡ take (n - 1) ys)

-- ---- where what was signed stands

-- client k signed v, and held this list then
pub record SignedHolding (es : List Event) (k : ℕ) (v : Version) (list : List Committed)
    : Type 0 where
  pub before : List Event
  pub after : List Event
  pub moment : es ≡ before ++ signing k v ∷ after
  pub holding : list_of k before ≡ list

-- so did a client of user u
pub record SignedByHolding (w : World) (es : List Event) (u : ℕ) (v : Version)
    (list : List Committed) : Type 0 where
  pub client : ℕ
  pub user : w.user client ≡ u
  pub made : SignedHolding es client v list

-- Each commit of user u in a list stands after just the list that a client of u held when it signed
-- it.
abbrev pub AsMade : World → List Event → ℕ → List Committed → Type 0
AsMade w es u list =
    (n : ℕ) (c : Committed) → at list n ≡ Some c → author_of c ≡ u
    → SignedByHolding w es u c.commit.version (take (n - 1) list)

-- ---- where lists differ

-- What client k signs while its list differs from this one, at a number that both have, isn't in
-- this one.
abbrev pub NotJoined : List Event → ℕ → List Committed → Type 0
NotJoined es k list =
    (v : Version) (mine : List Committed) (n : ℕ) → SignedHolding es k v mine
    → DifferAt n mine list → (m : ℕ) (c : Committed) → at list m ≡ Some c → c.commit.version ≢ v

-- Once the lists of clients j and k differ at a number that both have, nothing that j signs is ever
-- in the list of k.
abbrev pub NeverJoins : List Event → ℕ → ℕ → Type 0
NeverJoins es j k =
    (early before after : List Event) (v : Version) (n : ℕ)
    → es ≡ (early ++ before) ++ signing j v ∷ after
    → DifferAt n (list_of j early) (list_of k early)
    → (m : ℕ) (c : Committed) → at (list_of k es) m ≡ Some c → c.commit.version ≢ v

-- Above a number at which the lists differ, the second has no commit of user u.
abbrev pub NoneAbove : ℕ → List Committed → List Committed → Type 0
NoneAbove u mine list =
    (n : ℕ) → DifferAt n mine list
    → (m : ℕ) (c : Committed) → at list m ≡ Some c → author_of c ≡ u → m ≤ n
