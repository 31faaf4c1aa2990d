-- The machine of a book: seats take the turn, and the one that has it stores a commit or gives the
-- turn back. (This project's own.)
use Rattle.std.specs.Prelude.{◌≡◌, ◌≢◌, ◌≤◌, ◌<◌, ◌+◌, ◌⊎◌, ℕ, zero, suc, List, [], ◌∷◌, ◌++◌, length, Option, Some, None, nat_eq, cond}
use Rattle.su_bytes.specs.Membership.{Membership}
use Rattle.su_bytes.specs.Order.{Line, demand, Passes, RefusedBy}
use Rattle.su_bytes.specs.declared.refusals.Refusal.{Refusal}
use Rattle.su_bytes.specs.declared.refusals.Refusal.TheVariants.{Busy, NotYourTurn, BookFull}
use Rattle.su_version.specs.Commit.{Commit, IsCommit, commit_bytes}
use Rattle.su_version.specs.Chain.{next_order, tip}
use Rattle.su_book.specs.Malformed.{IsMalformed}
use Rattle.su_book.specs.declared.events.Event.{Event}
use Rattle.su_book.specs.declared.events.Event.TheVariants as event
use Rattle.su_book.specs.declared.events.BookReply.{BookReply}
use Rattle.su_book.specs.declared.events.BookReply.TheVariants as reply
use Rattle.su_book.specs.declared.steps.Act.{Act}
use Rattle.su_book.specs.declared.steps.Act.TheVariants.{Granted, Stored, Given}
use Rattle.su_book.specs.declared.steps.Step.{Step}
use Rattle.su_book.specs.declared.keeping.TheConstants.{USERS}
use Rattle.su_book.specs.declared.books.TheConstants.{MOST_RECORDS}

-- what contracts see of a book: how many commits it may store, the roster of their authors, and the
-- steps that were made, in order
pub record BookState : Type 0 where
  pub capacity : ℕ
  pub roster : Membership
  pub journal : List Step

-- as many commits as a book may be for
abbrev pub IsCapacity : ℕ → Type 0
IsCapacity n = (1 ≤ n) × (n ≤ MOST_RECORDS)

-- ---- what a journal comes to

-- who has the turn after this act of that seat
abbrev pub turn_after : ℕ → Act → Option ℕ
turn_after seat (Granted _) = Some seat
turn_after seat (Stored _ _) = None
turn_after seat Given = None

abbrev pub holder_from : Option ℕ → List Step → Option ℕ
holder_from h [] = h
holder_from h (s ∷ ss) = holder_from (turn_after s.seat s.act) ss

-- the seat that has the turn: the one that was granted it in the last step
abbrev pub holder_of : List Step → Option ℕ
holder_of steps = holder_from None steps

abbrev pub stored_by : Act → List Commit
stored_by (Granted _) = []
stored_by (Stored _ c) = c ∷ []
stored_by Given = []

-- the records: the commits that were stored, in order
abbrev pub records_of : List Step → List Commit
records_of [] = []
records_of (s ∷ ss) = stored_by s.act ++ records_of ss

abbrev pub count_of : List Step → ℕ
count_of steps = length (records_of steps)

-- ---- which step may come next

-- The turn may be granted: no other seat has it; and the number of records is told.
pub record MayBeGranted (b : BookState) (seat n : ℕ) : Type 0 where
  pub free : (other : ℕ) → holder_of b.journal ≡ Some other → other ≡ seat
  pub count : n ≡ count_of b.journal

-- What a commit has to meet to be stored for the seat that has the turn, in this order: what the
-- next one after the records has to; there is room for it.
abbrev pub storing_order : BookState → Commit → List (Line Refusal)
storing_order b c =
    next_order b.roster (tip b.roster (records_of b.journal) c.version.author) c
    ++ demand (count_of b.journal < b.capacity) BookFull ∷ []

-- A commit may be stored: the seat has the turn, the commit meets what it has to, and its number is
-- told.
pub record MayBeStored (b : BookState) (seat n : ℕ) (c : Commit) : Type 0 where
  pub turn : holder_of b.journal ≡ Some seat
  pub spelled : IsCommit c
  pub fits : Passes (storing_order b c)
  pub number : n ≡ count_of b.journal + 1

-- a seat may do this next
abbrev pub MayAct : BookState → ℕ → Act → Type 0
MayAct b seat (Granted n) = MayBeGranted b seat n
MayAct b seat (Stored n c) = MayBeStored b seat n c
MayAct b seat Given = holder_of b.journal ≡ Some seat

abbrev pub MayFollow : BookState → Step → Type 0
MayFollow b s = MayAct b s.seat s.act

-- the same with one step more
abbrev pub with_step : BookState → Step → BookState
with_step b s = record b { journal = b.journal ++ s ∷ [] }

-- Each of these steps may follow those before it.
abbrev pub RunsFrom : BookState → List Step → Type 0
RunsFrom b [] = Unit {0}
RunsFrom b (s ∷ ss) = MayFollow b s × RunsFrom (with_step b s) ss

-- the journal is a run: each step may follow those before it
abbrev pub IsRun : BookState → Type 0
IsRun b = RunsFrom (record b { journal = [] }) b.journal

-- ---- what a seat asks for

-- The act is what the event asks for: of the bytes of a commit, that this commit is stored.
abbrev pub AsksFor : Event → Act → Type 0
AsksFor event.Grant (Granted _) = Unit {0}
AsksFor (event.Commit bytes) (Stored _ c) = bytes.items ≡ commit_bytes c
AsksFor event.Give Given = Unit {0}
AsksFor _ _ = ⊥

-- ---- what it is refused

-- the bytes are those of no commit, or of one that isn't stored for the seat that has the turn
abbrev pub IsUnfit : BookState → List ℕ → Refusal → Type 0
IsUnfit b bytes e =
    IsMalformed bytes e
    ⊎ ((c : Commit) × IsCommit c × (bytes ≡ commit_bytes c) × RefusedBy (storing_order b c) e)

abbrev pub IsRefused : BookState → ℕ → Event → Refusal → Type 0
IsRefused b seat event.Grant e =
    (other : ℕ) × (e ≡ Busy other) × (holder_of b.journal ≡ Some other) × (other ≢ seat)
IsRefused b seat (event.Commit bytes) e =
    ((e ≡ NotYourTurn) × (holder_of b.journal ≢ Some seat))
    ⊎ ((holder_of b.journal ≡ Some seat) × IsUnfit b bytes.items e)
IsRefused b seat event.Give e = (e ≡ NotYourTurn) × (holder_of b.journal ≢ Some seat)

-- ---- what it is told

abbrev pub last_from : ℕ → ℕ → Option ℕ → List Commit → Option ℕ
last_from u n last [] = last
last_from u n last (c ∷ cs) =
    last_from u (n + 1) (cond (nat_eq c.version.author u) (Some n) last) cs

-- the number of the user's last commit; commits are numbered from 1
unfoldable pub last_number : ℕ → List Commit → Option ℕ
last_number u cs = last_from u 1 None cs

abbrev pub paired : ℕ → Option ℕ → List (ℕ × ℕ)
paired u None = []
paired u (Some n) = (u, n) ∷ []

unfoldable pub last_numbers_below : ℕ → List Commit → List (ℕ × ℕ)
last_numbers_below zero cs = []
last_numbers_below (suc u) cs = last_numbers_below u cs ++ paired u (last_number u cs)

-- the users who have a commit, ascending, each with the number of the last one
unfoldable pub last_numbers : List Commit → List (ℕ × ℕ)
last_numbers cs = last_numbers_below USERS cs

-- The reply tells of an act after these records: of a grant the number of records and the users'
-- last ones, of a commit its number.
abbrev pub Tells : List Commit → Act → BookReply → Type 0
Tells cs (Granted n) (reply.Granted count last) = (count ≡ n) × (last.items ≡ last_numbers cs)
Tells cs (Stored n _) (reply.Stored number) = number ≡ n
Tells cs Given reply.Given = Unit {0}
Tells _ _ _ = ⊥

-- of a grant it tells how many records there are, and the users' last ones
abbrev pub TellsRecords : BookReply → Type 0
TellsRecords (reply.Granted count last) =
    (cs : List Commit) × (count ≡ length cs) × (last.items ≡ last_numbers cs)
TellsRecords (reply.Stored number) = Unit {0}
TellsRecords reply.Given = Unit {0}

-- A seat made the step that the event asks for, and was told of it.
pub record Stepped (b : BookState) (seat : ℕ) (e : Event) (b' : BookState) (r : BookReply)
    : Type 0 where
  pub act : Act
  pub asked : AsksFor e act
  pub may : MayAct b seat act
  pub becomes : b' ≡ with_step b (record { seat = seat; act = act })
  pub told : Tells (records_of b.journal) act r
