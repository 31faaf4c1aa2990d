-- A link between a client and a server, and one request and its reply on it.
use Rattle.std.specs.Prelude.{◌≡◌, ◌⊎◌, ℕ, Bool, true, false, List, [], ◌++◌, Contains, MatchOption, Option, Some, None, Result, Ok, Err}
use Rattle.std.specs.Io.KnownBytes.{Appends, Consumes, Keeps}
use Rattle.su_bytes.specs.declared.refusals.Refusal.{Refusal}
use Rattle.su_bytes.specs.declared.refusals.Refusal.TheVariants.{MissingBlock, SourceFailed, NoMemory, LinkFailed}
use Rattle.su_bytes.specs.Refusal.{refusal_number}
use Rattle.su_frames.specs.Stream.{frame, IsMessage, Splits}
use Rattle.su_message.specs.declared.requests.Request.{Request}
use Rattle.su_message.specs.declared.replies.Reply.{Reply}
use Rattle.su_message.specs.declared.replies.Reply.TheVariants.{Kept, Nothing, Item, Refused}
use Rattle.su_message.specs.Request.{IsRequest, request_bytes}
use Rattle.su_message.specs.Reply.{IsReply, reply_bytes, refused_argument}
use Rattle.su_client.specs.Fitting.{may_refuse, fitting}

-- What contracts see of a link: the bytes that are still to come, and those that were written for
-- what was asked, where they are known; the bytes that have come and weren't used; whether it has
-- failed. (A request that is sent ahead of its time counts as written once it is asked for.)
pub record LinkState : Type 0 where
  pub known : Option (List ℕ)
  pub held : Option (List ℕ)
  pub waits : List ℕ
  pub failed : Bool

-- a link over which nothing has come that waits, and that works
abbrev pub IsFresh : LinkState → Type 0
IsFresh a = (a.waits ≡ []) × (a.failed ≡ false)

-- The request was written whole, and the message that came next is this reply.
pub record Exchanged (q : Request) (a b : LinkState) (r : Reply) : Type 0 where
  pub works : a.failed ≡ false
  pub asks : IsRequest q
  pub written : Appends a.held b.held (frame (request_bytes q))
  pub input : List ℕ
  pub read : Consumes a.known b.known input
  pub replies : IsReply r
  pub message : IsMessage (reply_bytes r)
  pub next : a.waits ++ input ≡ frame (reply_bytes r) ++ b.waits
  pub good : b.failed ≡ false

-- What may have become of a link by some calls: some bytes were written, and some were read. A link
-- that has failed is asked no more: nothing is written to it or read from it.
pub record Follows (a b : LinkState) : Type 0 where
  pub output : List ℕ
  pub written : Appends a.held b.held output
  pub input : List ℕ
  pub read : Consumes a.known b.known input
  pub no_more : a.failed ≡ true → b ≡ a

-- What was read meanwhile waits; nothing else of what is known has changed.
pub record Waits (a b : LinkState) : Type 0 where
  pub input : List ℕ
  pub read : Consumes a.known b.known input
  pub waits : b.waits ≡ a.waits ++ input
  pub held : Keeps a.held b.held
  pub failed : b.failed ≡ a.failed
  pub no_more : a.failed ≡ true → b ≡ a

-- A request may have been sent ahead of its time: as to what was asked, nothing has changed, or the
-- link has failed.
abbrev pub GoesAhead : LinkState → LinkState → Type 0
GoesAhead a b = Waits a b ⊎ ((b.failed ≡ true) × Follows a b)

-- the link failed in a call, or had before
abbrev pub Fails : LinkState → LinkState → Refusal → Type 0
Fails a b e = (e ≡ LinkFailed) × (b.failed ≡ true) × Follows a b

-- Nothing was written, as there was no memory for the request.
abbrev pub Unasked : LinkState → LinkState → Type 0
Unasked a b = (a.failed ≡ false) × (b ≡ a)

-- what became of a request
abbrev pub Asked : Request → LinkState → LinkState → Result Reply Refusal → Type 0
Asked q a b (Ok r) = Exchanged q a b r
Asked q a b (Err e) = Fails a b e ⊎ ((e ≡ NoMemory) × Unasked a b)

-- Why a call fails: the link failed, or had before; there was no memory for the request; or the
-- server refused it, as it may.
abbrev pub IsRefusal : Request → LinkState → LinkState → Refusal → Type 0
IsRefusal q a b e =
    Fails a b e
    ⊎ ((e ≡ NoMemory) × Unasked a b)
    ⊎ ((may_refuse q e ≡ true)
    × Exchanged q a b (Refused (refusal_number e) (refused_argument e)))

-- A reply came that isn't the request's own. It tells of a refusal that fits the request, and the
-- link stays as it was; or the link has failed.
abbrev pub Refuses : Request → Reply → LinkState → LinkState → Refusal → Type 0
Refuses q r a b e =
    MatchOption (fitting q r)
    ((e ≡ LinkFailed) × (b ≡ record a { failed = true }))
    (λ told. (e ≡ told) × (b ≡ a))

-- the reply to a request for a record
abbrev pub kept_or_nothing : Option (List ℕ) → Reply
kept_or_nothing (Some bytes) = Kept bytes
kept_or_nothing None = Nothing

-- of bytes that have come and bytes that are still to come, where these are known: a message tells
-- of the item
abbrev pub IsToldOf : List ℕ → Option (List ℕ) → List ℕ → Type 0
IsToldOf waits None item = Unit {0}
IsToldOf waits (Some bytes) item =
    (messages : List (List ℕ)) × (rest : List ℕ) × Splits (waits ++ bytes) messages rest
    × Contains messages (reply_bytes (Item item))

-- the items that may be given over a link from now on: those that its messages tell of, and none
-- once it has failed
abbrev pub MayGive : LinkState → List ℕ → Type 0
MayGive a item = (a.failed ≡ false) × IsToldOf a.waits a.known item

-- what a source that is a client answers to a refusal: a link that has failed is a source that
-- could not be asked
abbrev pub of_source : Refusal → Refusal
of_source MissingBlock = MissingBlock
of_source NoMemory = NoMemory
of_source _ = SourceFailed
