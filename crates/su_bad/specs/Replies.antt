-- What a server that misbehaves replies, by what it shows. (This project's own.)
use Rattle.std.specs.Prelude.{◌≡◌, ◌⊎◌, ℕ, ◌+◌, Bool, true, false, if◌then◌else◌, List, [], ◌∷◌, ◌++◌, length, Option, Some, None, Result, Ok, Err}
use Rattle.std.specs.List.{list_any}
use Rattle.std.specs.Str.{bytes_eq}
use Rattle.sha2.specs.Sha256.{sha256}
use Rattle.su_bytes.specs.declared.refusals.Refusal.{Refusal}
use Rattle.su_bytes.specs.declared.refusals.Refusal.TheVariants.{MissingBlock, NoMemory, TooBig}
use Rattle.su_block.specs.Item.{is_item}
use Rattle.su_block.specs.Memory.{held_under, held_with}
use Rattle.su_message.specs.declared.requests.Request.{Request}
use Rattle.su_message.specs.declared.requests.Request.TheVariants as request
use Rattle.su_message.specs.declared.replies.Reply.{Reply}
use Rattle.su_message.specs.declared.replies.Reply.TheVariants as reply
use Rattle.su_session.specs.Answer.{refusal_reply}
use Rattle.su_bad.specs.Script.{shown_at}
use Rattle.su_bad.specs.Shown.{Shown}

-- a reply, or the one that tells of a refusal
abbrev pub said : Result Reply Refusal → Reply
said (Ok r) = r
said (Err e) = refusal_reply e

-- ---- what is shown

-- the reply to who fetches what is shown so
abbrev pub fetched : Option (List ℕ) → Reply
fetched None = reply.Nothing
fetched (Some bytes) = reply.Kept bytes

-- the item that is given in the place of another one
abbrev pub false_item : List ℕ
false_item = 0 ∷ []

-- the reply to who gets an item that is held, or isn't
abbrev pub gotten : Option (List ℕ) → Reply
gotten None = refusal_reply MissingBlock
gotten (Some item) = reply.Item item

-- other bytes are given for this digest
abbrev pub is_wrong : Shown → List ℕ → Bool
is_wrong s digest = list_any (λ other. bytes_eq other digest) s.wrong

-- the reply to who gets the item of a digest
abbrev pub got : Shown → List ℕ → Reply
got s digest =
    if is_wrong s digest then reply.Item false_item else gotten (held_under s.items digest)

-- one item more is held, under its digest; one that was held there stays
pub record HoldsMore (s : Shown) (item : List ℕ) (t : Shown) : Type 0 where
  pub same : t ≡ record s { items = t.items }
  pub held : held_under t.items ≡ held_with (held_under s.items) item

-- what comes of putting an item, by whether it may be stored
abbrev pub Puts : Bool → Shown → List ℕ → Reply → Shown → Type 0
Puts false s item r t = (r ≡ refusal_reply TooBig) × (t ≡ s)
Puts true s item r t = (r ≡ reply.PutDone (sha256 item)) × HoldsMore s item t

-- ---- what is replied

-- By what is shown: the turn is anybody's, and each commit is taken, whatever it is.
abbrev pub Shows : Shown → Request → Reply → Shown → Type 0
Shows s request.Grant r t = (r ≡ reply.Granted (length s.records) s.last) × (t ≡ s)
Shows s (request.Commit bytes) r t =
    (r ≡ reply.Stored (length s.records + 1))
    × (t ≡ record s { records = s.records ++ Some bytes ∷ [] })
Shows s request.Give r t = (r ≡ reply.Given) × (t ≡ s)
Shows s (request.Fetch n) r t = (r ≡ fetched (shown_at s.records n)) × (t ≡ s)
Shows s (request.Put item) r t = Puts (is_item item) s item r t
Shows s (request.Get digest) r t = (r ≡ got s digest) × (t ≡ s)

-- there is no memory, and nothing changes
abbrev pub LacksMemory : Shown → Reply → Shown → Type 0
LacksMemory s r t = (r ≡ refusal_reply NoMemory) × (t ≡ s)

-- a reply that doesn't fit the request
abbrev pub beside : Request → Reply
beside request.Grant = reply.Given
beside (request.Commit bytes) = reply.Given
beside request.Give = reply.Nothing
beside (request.Fetch n) = reply.Given
beside (request.Put item) = reply.Given
beside (request.Get digest) = reply.Given

-- What may be replied: of a mute server nothing that fits.
abbrev pub Replies : Bool → Shown → Request → Reply → Shown → Type 0
Replies true s q r t = (r ≡ beside q) × (t ≡ s)
Replies false s q r t = Shows s q r t ⊎ LacksMemory s r t

abbrev pub Answers : Shown → Request → Reply → Shown → Type 0
Answers s q r t = Replies s.is_mute s q r t
