-- The steps of a session: one message, one read, and parts of a session that follow one another.
use Rattle.std.specs.Prelude.{◌≡◌, ◌⊎◌, ℕ, ◌+◌, ◌<◌, Bool, List, [], ◌++◌, length, take, Option, Some, None, All}
use Rattle.std.specs.Io.KnownBytes.{Consumes, Appends, IsAtEnd}
use Rattle.su_bytes.specs.declared.refusals.Refusal.{Refusal}
use Rattle.su_message.specs.declared.requests.Request.{Request}
use Rattle.su_message.specs.declared.replies.Reply.{Reply}
use Rattle.su_session.specs.declared.sessions.End.{End}
use Rattle.su_session.specs.declared.sessions.End.TheVariants as ended
use Rattle.su_frames.specs.declared.sending.Sent.{Sent}
use Rattle.su_frames.specs.declared.sending.Sent.TheVariants as sent
use Rattle.su_session.specs.declared.sessions.Progress.{Progress}
use Rattle.su_session.specs.declared.sessions.Progress.TheVariants as progress
use Rattle.su_session.specs.declared.sessions.Refill.{Refill}
use Rattle.su_session.specs.declared.sessions.Refill.TheVariants as refills
use Rattle.su_session.specs.declared.talks.Talk.{Talk}
use Rattle.su_frames.specs.Stream.{stream, IsMessage, IsPartial}
use Rattle.su_session.specs.Answer.{refusal_reply, reply_frame, written_of, turn_by, turn_after, Answered, Replies}
use Rattle.su_session.specs.Session.{Moment, Session}

-- the moment that a talk is at
abbrev pub at : {S : Type 0} → S → Talk → Option (List ℕ) → Option (List ℕ) → Moment S
at s talk known held = record {
  service = s;
  turn = talk.turn;
  answered = talk.answered;
  waits = talk.frames;
  known = known;
  held = held;
}

-- the refusal of a length was written, or a front of it
abbrev pub Refusing : Refusal → Option (List ℕ) → End → Option (List ℕ) → Type 0
Refusing e held ended.Refused held' = Appends held held' (reply_frame (refusal_reply e))
Refusing e held ended.LinkFailed held' =
    (n : ℕ) × Appends held held' (take n (reply_frame (refusal_reply e)))
Refusing e held end held' = ⊥

-- a talk has these bytes waiting, and is else as it was
abbrev pub Keeps : Talk → List ℕ → Talk → Type 0
Keeps old waits new =
    (new.frames ≡ waits) × (new.answered ≡ old.answered) × (new.turn ≡ old.turn)

-- what one read took waits, a byte at least; where there was no memory for it, it is gone
abbrev pub Refills : Talk → Option (List ℕ) → Refill → Talk → Option (List ℕ) → Type 0
Refills old known refills.More new known' =
    (piece : List ℕ) × Consumes known known' piece × (0 < length piece)
    × Keeps old (old.frames ++ piece) new
Refills old known refills.Ended new known' =
    Consumes known known' [] × IsAtEnd known' × Keeps old old.frames new
Refills old known refills.Failed new known' = Consumes known known' [] × Keeps old old.frames new
Refills old known refills.Lost new known' =
    (piece : List ℕ) × Consumes known known' piece × (0 < length piece)
    × Keeps old old.frames new

module _ {S : Type 0} (answers : S → Request → Reply → S → Type 0) where
  -- a message was answered, and its reply was written
  abbrev pub SaysWhole : S → Bool → List ℕ → Option (List ℕ) → S → Bool → Option (List ℕ) → Type 0
  SaysWhole s turn message held t turn' held' =
      (r : Reply) × Answered answers s message r t × (turn' ≡ turn_by turn r)
      × Appends held held' (reply_frame r)

  -- a message was answered, and a front of its reply was written that isn't all
  abbrev pub SaysPart : S → Bool → List ℕ → Option (List ℕ) → S → Bool → Option (List ℕ) → Type 0
  SaysPart s turn message held t turn' held' =
      (r : Reply) × (n : ℕ) × Answered answers s message r t × (turn' ≡ turn_by turn r)
      × (n < length (reply_frame r)) × Appends held held' (take n (reply_frame r))

  -- a message was given to nobody
  abbrev pub SaysNothing : S → Bool → Option (List ℕ) → S → Bool → Option (List ℕ) → Type 0
  SaysNothing s turn held t turn' held' = (t ≡ s) × (turn' ≡ turn) × Appends held held' []

  -- what one message does, by what became of its reply
  abbrev pub Says : S → Bool → List ℕ → Option (List ℕ) → Sent → S → Bool → Option (List ℕ) → Type 0
  Says s turn message held sent.Whole t turn' held' = SaysWhole s turn message held t turn' held'
  Says s turn message held sent.Unflushed t turn' held' =
      SaysWhole s turn message held t turn' held'
  Says s turn message held sent.Broken t turn' held' =
      SaysPart s turn message held t turn' held' ⊎ SaysNothing s turn held t turn' held'

  -- Part of a session: some bytes were read; of what waited and these, the first messages were
  -- answered, and all replies were written.
  pub record Goes (a b : Moment S) : Type 0 where
    pub input : List ℕ
    pub messages : List (List ℕ)
    pub replies : List Reply
    pub read : Consumes a.known b.known input
    pub whole : a.waits ++ input ≡ stream messages b.waits
    pub each : All IsMessage messages
    pub run : Replies answers a.service messages replies b.service
    pub written : Appends a.held b.held (written_of replies)
    pub counted : b.answered ≡ a.answered + length replies
    pub turn_is : b.turn ≡ turn_after a.turn replies

  -- the message that stands next was answered, or none is whole, or the session has ended
  abbrev pub Steps : Moment S → Progress → Moment S → Type 0
  Steps a progress.Answered b = Goes a b × (length b.waits < length a.waits)
  Steps a progress.Waits b = Goes a b × IsPartial b.waits
  Steps a (progress.Ends end) b = Session answers a end b

  -- all whole messages were answered, or the session has ended
  abbrev pub Readies : Moment S → Option End → Moment S → Type 0
  Readies a None b = Goes a b × IsPartial b.waits
  Readies a (Some end) b = Session answers a end b
