-- A session: the messages at the front of a stream are answered in order, whoever answers.
use Rattle.std.specs.Prelude.{◌≡◌, ◌⊎◌, ℕ, ◌+◌, ◌<◌, ◌≤◌, Bool, false, List, [], ◌∷◌, ◌++◌, length, Option, Some, None, All}
use Rattle.std.specs.Io.KnownBytes.{Consumes, Appends, IsAtEnd}
use Rattle.su_bytes.specs.declared.refusals.Refusal.{Refusal}
use Rattle.su_message.specs.declared.requests.Request.{Request}
use Rattle.su_message.specs.declared.replies.Reply.{Reply}
use Rattle.su_session.specs.declared.sessions.End.{End}
use Rattle.su_session.specs.declared.sessions.TheConstants.{MOST_READS}
use Rattle.su_session.specs.declared.sessions.End.TheVariants.{Closed, Cut, Refused, ReadFailed, LinkFailed, Spent}
use Rattle.su_session.specs.declared.sessions.Served.{Served}
use Rattle.su_frames.specs.Stream.{fault, stream, IsMessage, IsPartial, IsRest}
use Rattle.su_session.specs.Answer.{refusal_reply, reply_frame, written_of, refusal_frame, turn_after, Replies, GivesBack}

-- all replies were written, and no other byte
abbrev pub SaysAll : ℕ → List Reply → List ℕ → Type 0
SaysAll answered replies out = (out ≡ written_of replies) × (answered ≡ length replies)

-- The last message was answered, and its reply is missing, or a last part of it. That one isn't
-- counted.
pub record BreaksReply (answered : ℕ) (replies : List Reply) (out : List ℕ) : Type 0 where
  pub before : List Reply
  pub last : Reply
  pub part : List ℕ
  pub missing : List ℕ
  pub replies_are : replies ≡ before ++ last ∷ []
  pub counted : answered ≡ length before
  pub written : out ≡ written_of before ++ part
  pub cut : part ++ missing ≡ reply_frame last
  pub short : 0 < length missing

-- All replies were written, and perhaps a part of the refusal of the length that stands next.
pub record BreaksBetween (answered : ℕ) (replies : List Reply) (rest out : List ℕ) : Type 0 where
  pub part : List ℕ
  pub missing : List ℕ
  pub counted : answered ≡ length replies
  pub written : out ≡ written_of replies ++ part
  pub cut : part ++ missing ≡ refusal_frame (fault rest)

-- where the link failed
abbrev pub Breaks : ℕ → List ℕ → List Reply → List ℕ → Type 0
Breaks answered rest replies out =
    BreaksReply answered replies out ⊎ BreaksBetween answered replies rest out

-- How a session ended, by how many messages were answered, what the reader has left, what was read
-- and isn't answered, the replies, and what was written. Where a read failed, no whole message had
-- come that wasn't answered.
abbrev pub Ends : End → ℕ → Option (List ℕ) → List ℕ → List Reply → List ℕ → Type 0
Ends Closed answered known rest replies out =
    IsAtEnd known × (rest ≡ []) × SaysAll answered replies out
Ends Cut answered known rest replies out =
    IsAtEnd known × IsPartial rest × (0 < length rest) × SaysAll answered replies out
Ends Refused answered known rest replies out =
    (e : Refusal) × (fault rest ≡ Some e)
    × (out ≡ written_of replies ++ reply_frame (refusal_reply e)) × (answered ≡ length replies)
Ends ReadFailed answered known rest replies out = IsPartial rest × SaysAll answered replies out
Ends Spent answered known rest replies out = IsPartial rest × SaysAll answered replies out
Ends LinkFailed answered known rest replies out = Breaks answered rest replies out

-- That a reader was read as often as it may be is told only where so many bytes came, one at least
-- by each read; that the link failed, only where something waited or came, of which there was
-- something to keep or to answer.
abbrev pub CameBefore : End → (waits input : List ℕ) → Type 0
CameBefore Spent waits input = MOST_READS ≤ length input
CameBefore LinkFailed waits input = 0 < length waits + length input
CameBefore end waits input = Unit {0}

-- A moment of a session: the service, whether the turn is held, how many messages were answered,
-- what was read and isn't answered, what the reader has left and what the writer holds, where these
-- two are known.
pub record Moment (S : Type 0) : Type 0 where
  pub service : S
  pub turn : Bool
  pub answered : ℕ
  pub waits : List ℕ
  pub known : Option (List ℕ)
  pub held : Option (List ℕ)

-- the first moment
abbrev pub begin : {S : Type 0} → S → Option (List ℕ) → Option (List ℕ) → Moment S
begin s known held = record {
  service = s;
  turn = false;
  answered = 0;
  waits = [];
  known = known;
  held = held;
}

-- what a reader has left, where it is known
abbrev pub left : Option (List ℕ) → List ℕ
left None = []
left (Some bytes) = bytes

-- no whole message is left, unless a read or the link failed, or it was read too often
abbrev pub IsWhole : End → List ℕ → Type 0
IsWhole Closed rest = IsRest rest
IsWhole Cut rest = IsRest rest
IsWhole Refused rest = IsRest rest
IsWhole ReadFailed rest = Unit {0}
IsWhole Spent rest = Unit {0}
IsWhole LinkFailed rest = Unit {0}

-- how a session ends where the link holds, by what stands behind the last whole message
abbrev pub end_by : Option Refusal → List ℕ → End
end_by (Some e) rest = Refused
end_by None [] = Closed
end_by None (b ∷ bs) = Cut

abbrev pub end_of : List ℕ → End
end_of rest = end_by (fault rest) rest

module _ {S : Type 0} (answers : S → Request → Reply → S → Type 0) where
  -- A session, or what is left of one: some bytes were read; of what waited and these, the first
  -- messages were answered.
  pub record Session (a : Moment S) (end : End) (b : Moment S) : Type 0 where
    pub input : List ℕ
    pub messages : List (List ℕ)
    pub rest : List ℕ
    pub replies : List Reply
    pub out : List ℕ
    pub count : ℕ
    pub read : Consumes a.known b.known input
    pub whole : a.waits ++ input ≡ stream messages rest
    pub each : All IsMessage messages
    pub run : Replies answers a.service messages replies b.service
    pub written : Appends a.held b.held out
    pub counted : b.answered ≡ a.answered + count
    pub turn_is : b.turn ≡ turn_after a.turn replies
    pub ends : Ends end count b.known rest replies out
    pub came : CameBefore end a.waits input

  -- a whole session, from its first moment to a turn given back
  pub record Serves (s : S) (known held : Option (List ℕ)) (served : Served)
      (t : S) (known' held' : Option (List ℕ)) : Type 0 where
    pub last : Moment S
    pub session : Session (begin s known held) served.end_ last
    pub answered : served.answered ≡ last.answered
    pub gives : GivesBack answers last.turn last.service t
    pub known_is : known' ≡ last.known
    pub held_is : held' ≡ last.held
