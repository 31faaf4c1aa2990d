-- What a service that owns a book and items may answer. (This project's own.)
use Rattle.std.specs.Prelude.{◌≡◌, ◌≢◌, ℕ, zero, suc, ◌⊎◌, Bool, true, false, List, [], ◌∷◌, Option, Some, None, slice_get}
use Rattle.std.specs.Global.{Vec}
use Rattle.sha2.specs.Sha256.{sha256}
use Rattle.su_bytes.specs.declared.refusals.Refusal.{Refusal}
use Rattle.su_bytes.specs.declared.refusals.Refusal.TheVariants.{MissingBlock, TooBig, NoMemory}
use Rattle.su_version.specs.Commit.{Commit, commit_bytes}
use Rattle.su_block.specs.Item.{is_item}
use Rattle.su_block.specs.Memory.{held_under, held_with}
use Rattle.su_book.specs.declared.events.Event.{Event}
use Rattle.su_book.specs.declared.events.Event.TheVariants as event
use Rattle.su_book.specs.declared.events.BookReply.{BookReply}
use Rattle.su_book.specs.declared.events.BookReply.TheVariants as told
use Rattle.su_book.specs.Machine.{BookState, records_of, IsRefused, Stepped}
use Rattle.su_message.specs.declared.requests.Request.{Request}
use Rattle.su_message.specs.declared.requests.Request.TheVariants as request
use Rattle.su_message.specs.declared.replies.Reply.{Reply}
use Rattle.su_message.specs.declared.replies.Reply.TheVariants as reply
use Rattle.su_session.specs.Answer.{refusal_reply}
use Rattle.su_own_service.specs.declared.own.TheConstants.{SEAT}

-- what contracts see of the service: its book, and the items that are held, in some order
pub record Owned : Type 0 where
  pub book : BookState
  pub items : List (List ℕ)

-- the item that is held under a digest
abbrev pub held : Owned → List ℕ → Option (List ℕ)
held s = held_under s.items

-- the same book, and the same item under each digest
pub record Alike (s t : Owned) : Type 0 where
  pub book : s.book ≡ t.book
  pub held : held s ≡ held t

-- ---- the turn and commits

-- what the book tells, as a reply
abbrev pub reply_of : BookReply → Reply
reply_of (told.Granted count last) = reply.Granted count last.items
reply_of (told.Stored number) = reply.Stored number
reply_of told.Given = reply.Given

-- the book makes the step that the event asks for, and the reply tells of it
pub record Makes (s : Owned) (e : Event) (r : Reply) (t : Owned) : Type 0 where
  pub told : BookReply
  pub stepped : Stepped s.book SEAT e t.book told
  pub reply_is : r ≡ reply_of told
  pub items : t.items ≡ s.items

-- the book refuses it, and nothing changes
pub record Refuses (s : Owned) (e : Event) (r : Reply) (t : Owned) : Type 0 where
  pub refusal : Refusal
  pub refused : IsRefused s.book SEAT e refusal
  pub reply_is : r ≡ refusal_reply refusal
  pub same : t ≡ s

-- what comes of what is asked of the book
abbrev pub AsksBook : Owned → Event → Reply → Owned → Type 0
AsksBook s e r t = Makes s e r t ⊎ Refuses s e r t

-- ---- records and items

-- the record of this number; they are counted from 1
abbrev pub record_at : List Commit → ℕ → Option Commit
record_at cs zero = None
record_at cs (suc n) = slice_get cs n

-- The reply to who fetches a record: its bytes, unless there is no memory for them.
abbrev pub Fetches : Option Commit → Reply → Type 0
Fetches None r = r ≡ reply.Nothing
Fetches (Some c) r = (r ≡ reply.Kept (commit_bytes c)) ⊎ (r ≡ refusal_reply NoMemory)

-- The reply to who gets an item: the item, unless there is no memory for it.
abbrev pub Gets : Option (List ℕ) → Reply → Type 0
Gets None r = r ≡ refusal_reply MissingBlock
Gets (Some item) r = (r ≡ reply.Item item) ⊎ (r ≡ refusal_reply NoMemory)

-- there is no memory, and nothing changes
abbrev pub LacksMemory : Owned → Reply → Owned → Type 0
LacksMemory s r t = (r ≡ refusal_reply NoMemory) × (t ≡ s)

-- One item more is held, under its digest; one that was held there stays.
pub record HoldsMore (s : Owned) (item : List ℕ) (t : Owned) : Type 0 where
  pub book : t.book ≡ s.book
  pub held : held t ≡ held_with (held s) item

-- What comes of putting an item, by whether it may be stored.
abbrev pub Puts : Bool → Owned → List ℕ → Reply → Owned → Type 0
Puts false s item r t = (r ≡ refusal_reply TooBig) × (t ≡ s)
Puts true s item r t =
    ((r ≡ reply.PutDone (sha256 item)) × HoldsMore s item t) ⊎ LacksMemory s r t

-- ---- all requests

-- What may be answered. (A book is asked for a commit by a vector of its bytes.) To give the turn
-- back takes no memory.
abbrev pub Answers : Owned → Request → Reply → Owned → Type 0
Answers s request.Grant r t = AsksBook s event.Grant r t ⊎ LacksMemory s r t
Answers s (request.Commit bytes) r t =
    ((same : Vec ℕ) × (same.items ≡ bytes) × AsksBook s (event.Commit same) r t)
    ⊎ LacksMemory s r t
Answers s request.Give r t = AsksBook s event.Give r t
Answers s (request.Fetch n) r t = Fetches (record_at (records_of s.book.journal) n) r × (t ≡ s)
Answers s (request.Put item) r t = Puts (is_item item) s item r t
Answers s (request.Get digest) r t = Gets (held s digest) r × (t ≡ s)

-- no reply is a refusal for want of memory
abbrev pub HasMemory : List Reply → Type 0
HasMemory [] = Unit {0}
HasMemory (r ∷ rs) = (r ≢ refusal_reply NoMemory) × HasMemory rs
