-- The parts of a call over a link.
use Rattle.std.specs.Prelude.{◌≡◌, ℕ, Bool, true, false, List, ◌++◌, Option, Some, None}
use Rattle.std.specs.Global.{Vec}
use Rattle.std.specs.Io.KnownBytes.{Appends, Consumes}
use Rattle.su_frames.specs.Stream.{frame, IsMessage}
use Rattle.su_message.specs.declared.replies.Reply.{Reply}
use Rattle.su_message.specs.Reply.{IsReply, reply_bytes}
use Rattle.su_client.specs.Link.{LinkState}

-- What is read joins what waits; nothing is written.
pub record Joins (a b : LinkState) : Type 0 where
  pub input : List ℕ
  pub read : Consumes a.known b.known input
  pub waits : b.waits ≡ a.waits ++ input
  pub held : b.held ≡ a.held
  pub failed : b.failed ≡ a.failed

-- Some bytes were read, and may be lost; nothing was written.
pub record Reads (a b : LinkState) : Type 0 where
  pub input : List ℕ
  pub read : Consumes a.known b.known input
  pub held : b.held ≡ a.held
  pub failed : b.failed ≡ a.failed

-- one read
abbrev pub Refills : LinkState → Bool → LinkState → Type 0
Refills a true b = Joins a b
Refills a false b = Reads a b

-- The next message is taken of what waits and what is read.
pub record Takes (a : LinkState) (message : List ℕ) (b : LinkState) : Type 0 where
  pub input : List ℕ
  pub read : Consumes a.known b.known input
  pub is : IsMessage message
  pub next : a.waits ++ input ≡ frame message ++ b.waits
  pub held : b.held ≡ a.held
  pub failed : b.failed ≡ a.failed

abbrev pub Fetches : LinkState → Option (Vec ℕ) → LinkState → Type 0
Fetches a (Some message) b = Takes a message.items b
Fetches a None b = Reads a b

-- These bytes are written; what is read meanwhile joins what waits.
pub record Writes (bytes : List ℕ) (a b : LinkState) : Type 0 where
  pub written : Appends a.held b.held bytes
  pub input : List ℕ
  pub read : Consumes a.known b.known input
  pub waits : b.waits ≡ a.waits ++ input
  pub failed : b.failed ≡ a.failed

-- The message that comes next is this reply.
pub record Hears (a : LinkState) (r : Reply) (b : LinkState) : Type 0 where
  pub input : List ℕ
  pub read : Consumes a.known b.known input
  pub replies : IsReply r
  pub is : IsMessage (reply_bytes r)
  pub next : a.waits ++ input ≡ frame (reply_bytes r) ++ b.waits
  pub held : b.held ≡ a.held
  pub failed : b.failed ≡ a.failed

abbrev pub Hearing : LinkState → Option Reply → LinkState → Type 0
Hearing a (Some r) b = Hears a r b
Hearing a None b = Reads a b

-- A message is written whole, and the one that comes next is this reply.
pub record Talks (message : List ℕ) (a : LinkState) (r : Reply) (b : LinkState) : Type 0 where
  pub written : Appends a.held b.held (frame message)
  pub input : List ℕ
  pub read : Consumes a.known b.known input
  pub replies : IsReply r
  pub is : IsMessage (reply_bytes r)
  pub next : a.waits ++ input ≡ frame (reply_bytes r) ++ b.waits
  pub failed : b.failed ≡ a.failed

-- Some bytes were written and some read, and no reply came of it.
pub record Spends (a b : LinkState) : Type 0 where
  pub output : List ℕ
  pub written : Appends a.held b.held output
  pub input : List ℕ
  pub read : Consumes a.known b.known input
  pub failed : b.failed ≡ a.failed

abbrev pub Exchanges : List ℕ → LinkState → Option Reply → LinkState → Type 0
Exchanges message a (Some r) b = Talks message a r b
Exchanges message a None b = Spends a b

-- the bytes are written; or some bytes were, and no more
abbrev pub Writing : List ℕ → LinkState → Bool → LinkState → Type 0
Writing bytes a true b = Writes bytes a b
Writing bytes a false b = Spends a b

abbrev pub Sending : List ℕ → LinkState → Bool → LinkState → Type 0
Sending message a sent b = Writing (frame message) a sent b
