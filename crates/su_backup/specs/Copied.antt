-- What is copied of a server's records, over a link, from a seat of a book. (This project's own.)
use Rattle.std.specs.Prelude.{◌≡◌, ◌⊎◌, ◌≤◌, ◌+◌, ◌-◌, All, ℕ, List, [], ◌∷◌, length, Some, slice_get}
use Rattle.su_message.specs.declared.requests.Request.TheVariants.{Fetch}
use Rattle.su_message.specs.declared.replies.Reply.TheVariants.{Kept, Nothing}
use Rattle.su_client.specs.Link.{LinkState, Exchanged, MayGive}
use Rattle.su_keeper.specs.Kept.{KeptRecord}
use Rattle.su_shared.specs.Entry.{Entry, IsShown}
use Rattle.su_shared.specs.Shares.{kept_all}
use Rattle.su_shared.specs.Seats.{SeatView, known_at, Learns}

-- ---- the server's side

-- Of a link over which an item was asked for: it gives no items that it might not have given.
abbrev pub OnlyItems : LinkState → LinkState → Type 0
OnlyItems a b = (item : List ℕ) → MayGive b item → MayGive a item

-- The server was asked for the record of this number, and gave the bytes of this commit; then for an
-- item at most, and these were given.
pub record Gives (number : ℕ) (r : KeptRecord) (a b : LinkState) : Type 0 where
  pub between : LinkState
  pub fetched : Exchanged (Fetch number) a between (Kept r.commit)
  pub items : All (MayGive between) r.items
  pub item : OnlyItems between b

-- the server gave these records one after another, each under its number, the first under this one
abbrev pub GivesAll : ℕ → List KeptRecord → LinkState → LinkState → Type 0
GivesAll number [] a b = b ≡ a
GivesAll number (r ∷ more) a c =
    (b : LinkState) × Gives number r a b × GivesAll (number + 1) more b c

-- the server was asked for the record of this number, and said that it has none
abbrev pub EndsAt : ℕ → LinkState → LinkState → Type 0
EndsAt number a b = Exchanged (Fetch number) a b Nothing

-- ---- the book's side

-- what the seat knows of a record, it knows from then on
abbrev pub StillKnows : SeatView → SeatView → Type 0
StillKnows s t = (n : ℕ) (r : Entry) → known_at s.known n ≡ Some r → known_at t.known n ≡ Some r

-- what the seat stored and knows stays
pub record Keeps (s t : SeatView) : Type 0 where
  pub stored : s.kept.stored ≤ t.kept.stored
  pub known : StillKnows s t

-- the record, under this number
abbrev pub numbered : ℕ → KeptRecord → Entry
numbered number r = record { number = number; bytes = r.commit; items = r.items }

-- the seat stores one commit more, with its items, and knows it under this number
pub record StoresOne (number : ℕ) (r : KeptRecord) (s t : SeatView) : Type 0 where
  pub stored : t.kept.stored ≡ s.kept.stored + 1
  pub learns : Learns s.known (numbered number r) t.known

-- the seat stores so many commits more as there are records, and knows each under its number, the
-- first under this one
pub record StoresAll (number : ℕ) (records : List KeptRecord) (s t : SeatView) : Type 0 where
  pub stored : t.kept.stored ≡ s.kept.stored + length records
  pub known : StillKnows s t
  pub knows : (k : ℕ) (r : KeptRecord) → slice_get records k ≡ Some r
      → known_at t.known (number + k) ≡ Some (numbered (number + k) r)

-- ---- both

-- the server gives the record of this number, and the seat stores it
abbrev pub CopiesOne : ℕ → LinkState → LinkState → SeatView → SeatView → Type 0
CopiesOne number a b s t =
    (r : KeptRecord) × Gives number r a b × StoresOne number r s t

-- The server gives some records behind those that the seat stored, and the seat stores just these, in
-- their order.
pub record CopiesSome (a b : LinkState) (s t : SeatView) : Type 0 where
  pub records : List KeptRecord
  pub given : GivesAll (s.kept.stored + 1) records a b
  pub stores : StoresAll (s.kept.stored + 1) records s t

-- The server gives so many records, and the seat stores them; then the server says that there are no
-- more.
pub record CopiesAll (count : ℕ) (a b : LinkState) (s t : SeatView) : Type 0 where
  pub counted : t.kept.stored ≡ s.kept.stored + count
  pub last : LinkState
  pub copies : CopiesSome a last s t
  pub end : EndsAt (t.kept.stored + 1) last b

-- The server gives some records, and the seat stores them and keeps them, whatever comes then.
pub record CopiesSomeAndKeeps (a : LinkState) (s u : SeatView) : Type 0 where
  pub last : LinkState
  pub seat : SeatView
  pub copies : CopiesSome a last s seat
  pub keeps : Keeps seat u

-- Where the seat stored any, the server gives the record of the last one's number, and it is that of
-- the book; or, where a keeper has its bytes and can fail, it has its SHA-256. Where the seat stored
-- none, nothing is asked.
abbrev pub IsLastOf : Type 0 → SeatView → LinkState → LinkState → SeatView → Type 0
IsLastOf may_fail s a b t =
    ((s.kept.stored ≡ 0) × (b ≡ a)) ⊎ ((r : Entry) × (shown : List ℕ)
    × Exchanged (Fetch s.kept.stored) a b (Kept shown) × IsShown may_fail r.bytes shown
    × (known_at t.known s.kept.stored ≡ Some r) × (r.number ≡ s.kept.stored))

-- The server gives the last record that the seat stored, and then so many more, which the seat stores.
pub record GoesOn (may_fail : Type 0) (count : ℕ) (a b : LinkState) (s t : SeatView)
    : Type 0 where
  pub first : LinkState
  pub seat : SeatView
  pub last : IsLastOf may_fail s a first seat
  pub kept : seat.kept ≡ s.kept
  pub copies : CopiesAll count first b seat t

-- ---- the copy

-- The server gives the record of this number, and it is that of the book; or, where a keeper has its
-- bytes and can fail, it has its SHA-256. Where the number is 0, nothing is asked.
abbrev pub GivesLast : Type 0 → ℕ → List Entry → LinkState → LinkState → Type 0
GivesLast may_fail number book a b =
    ((number ≡ 0) × (b ≡ a)) ⊎ ((r : Entry) × (shown : List ℕ)
    × Exchanged (Fetch number) a b (Kept shown) × IsShown may_fail r.bytes shown
    × (slice_get book (number - 1) ≡ Some r))

-- The records of a book, up to some number, were there, and the server gave the last of them. It gave
-- those behind them, so many, each under its number and with its items, and then said that there are
-- no more.
pub record IsCopied (may_fail : Type 0) (count : ℕ) (a b : LinkState) (book : List Entry)
    : Type 0 where
  pub before : ℕ
  pub counted : length book ≡ before + count
  pub first : LinkState
  pub shown : GivesLast may_fail before book a first
  pub records : List KeptRecord
  pub number : length records ≡ count
  pub last : LinkState
  pub given : GivesAll (before + 1) records first last
  pub kept : (k : ℕ) (r : KeptRecord) → slice_get records k ≡ Some r
      → slice_get (kept_all book) (before + k) ≡ Some r
  pub end : EndsAt (before + count + 1) last b
