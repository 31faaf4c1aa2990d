-- What a service answers to the messages of a session, one after another, and how it is written.
use Rattle.std.specs.Prelude.{◌≡◌, ◌⊎◌, ℕ, Bool, true, false, List, [], ◌∷◌, Option, Some, None, Err}
use Rattle.std.specs.List.{flat_map}
use Rattle.su_bytes.specs.declared.refusals.Refusal.{Refusal}
use Rattle.su_bytes.specs.declared.refusals.Refusal.TheVariants.{NoMemory}
use Rattle.su_bytes.specs.Refusal.{refusal_number}
use Rattle.su_message.specs.declared.requests.Request.{Request}
use Rattle.su_message.specs.declared.requests.Request.TheVariants.{Give}
use Rattle.su_message.specs.declared.replies.Reply.{Reply}
use Rattle.su_message.specs.declared.replies.Reply.TheVariants.{Granted, Stored, Given, Kept, Nothing, PutDone, Item, Refused}
use Rattle.su_message.specs.Request.{IsRequest, request_bytes, request_kinds}
use Rattle.su_message.specs.Reply.{reply_bytes, refused_argument}
use Rattle.su_message.specs.Tagged.{ReadsTagged}
use Rattle.su_frames.specs.Stream.{frame}

-- the message is this request
abbrev pub IsMessageOf : List ℕ → Request → Type 0
IsMessageOf message q = IsRequest q × (message ≡ request_bytes q)

-- the message is no request, for this reason; want of memory is no such reason
abbrev pub AsksNothing : List ℕ → Refusal → Type 0
AsksNothing message e =
    (e ≡ NoMemory → ⊥) × ReadsTagged request_kinds message (Err e)

-- the reply that tells of a refusal
abbrev pub refusal_reply : Refusal → Reply
refusal_reply e = Refused (refusal_number e) (refused_argument e)

-- ---- how replies are written

-- a reply on the stream
abbrev pub reply_frame : Reply → List ℕ
reply_frame r = frame (reply_bytes r)

-- replies on the stream, one behind another
abbrev pub written_of : List Reply → List ℕ
written_of rs = flat_map reply_frame rs

-- the refusal of a length that stands next, on the stream
abbrev pub refusal_frame : Option Refusal → List ℕ
refusal_frame None = []
refusal_frame (Some e) = reply_frame (refusal_reply e)

-- ---- the turn

-- whether the turn is held after a reply, where it was held so before
abbrev pub turn_by : Bool → Reply → Bool
turn_by turn (Granted count last) = true
turn_by turn (Stored number) = false
turn_by turn Given = false
turn_by turn (Kept bytes) = turn
turn_by turn Nothing = turn
turn_by turn (PutDone digest) = turn
turn_by turn (Item bytes) = turn
turn_by turn (Refused number argument) = turn

-- the same after replies: where one is Granted, Stored or Given, whether the newest such is Granted
abbrev pub turn_after : Bool → List Reply → Bool
turn_after turn [] = turn
turn_after turn (r ∷ rs) = turn_after (turn_by turn r) rs

-- ---- who answers

module _ {S : Type 0} (answers : S → Request → Reply → S → Type 0) where
  -- a message that is a request is answered by the service; any other one by its refusal, and the
  -- service isn't asked
  abbrev pub Answered : S → List ℕ → Reply → S → Type 0
  Answered s message r t =
      ((q : Request) × IsMessageOf message q × answers s q r t)
      ⊎ ((e : Refusal) × AsksNothing message e × (r ≡ refusal_reply e) × (t ≡ s))

  -- each message has its reply, in order
  abbrev pub Replies : S → List (List ℕ) → List Reply → S → Type 0
  Replies s [] [] t = t ≡ s
  Replies s [] (r ∷ rs) t = ⊥
  Replies s (m ∷ ms) [] t = ⊥
  Replies s (m ∷ ms) (r ∷ rs) t = (u : S) × Answered s m r u × Replies u ms rs t

  -- a turn that is held is given back by one request more; of its reply nothing is said
  abbrev pub GivesBack : Bool → S → S → Type 0
  GivesBack true s t = (r : Reply) × answers s Give r t
  GivesBack false s t = t ≡ s
