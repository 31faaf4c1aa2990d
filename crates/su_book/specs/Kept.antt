-- How a book is kept.
use Rattle.std.specs.Prelude.{◌≡◌, ◌≢◌, ◌≤◌, ◌<◌, ◌+◌, ◌^◌, ℕ, true, List, length, Option, None, get_or}
use Rattle.su_bytes.specs.Principal.{is_user}
use Rattle.su_bytes.specs.Membership.{Membership}
use Rattle.su_version.specs.Commit.{Commit}
use Rattle.su_version.specs.Chain.{MayBeNext}
use Rattle.su_used_keys.specs.UsedKeys.{HasRoom}
use Rattle.su_chain.specs.ChainEnd.{IsEndOf}
use Rattle.su_book.specs.declared.steps.Act.{Act}
use Rattle.su_book.specs.declared.steps.Act.TheVariants.{Granted, Stored, Given}
use Rattle.su_book.specs.declared.keeping.Keeping.{Keeping}
use Rattle.su_book.specs.declared.keeping.TheConstants.{USERS}
use Rattle.su_book.specs.Machine.{BookState, IsCapacity, IsRun, holder_of, records_of, count_of, last_number}

-- the number that is kept of a user's last commit
abbrev pub last_at : List (Option ℕ) → ℕ → Option ℕ
last_at last u = get_or last u None

-- of each user the number of the last one of these commits
pub record AreLast (cs : List Commit) (last : List (Option ℕ)) : Type 0 where
  pub long : length last ≡ USERS
  pub numbers : (u : ℕ) → is_user u ≡ true → last_at last u ≡ last_number u cs

-- what is kept so
abbrev pub book_of : Keeping → BookState
book_of k = record { capacity = k.capacity; roster = k.roster; journal = k.journal }

-- The steps are a run, and what else is kept is what they come to. While a seat has the turn the
-- step that ends it can be counted, and the next key that its commit may name can be kept.
pub record IsKeeping (k : Keeping) : Type 0 where
  pub limit : IsCapacity k.capacity
  pub run : IsRun (book_of k)
  pub holder : k.holder ≡ holder_of k.journal
  pub end_is : IsEndOf k.roster (records_of k.journal) k.end
  pub within : count_of k.journal ≤ k.capacity
  pub last_is : AreLast (records_of k.journal) k.last.items
  pub room : k.holder ≢ None → length k.journal + 1 < 2 ^ 64
  pub key_room : k.holder ≢ None → HasRoom k.end.used

-- what the act stores may be the next after these records, and has its number
abbrev pub StoresNext : Membership → List Commit → Act → Type 0
StoresNext ro cs (Granted _) = Unit {0}
StoresNext ro cs (Stored n c) = MayBeNext ro cs c × (n ≡ length cs + 1)
StoresNext ro cs Given = Unit {0}
