-- Which refusals fit a request, and how a reply tells of them. (This project's own protocol.)
use Rattle.std.specs.Prelude.{ℕ, Bool, true, false, ◌==◌, nat_lt, if◌then◌else◌, Option, Some, None}
use Rattle.su_bytes.specs.declared.refusals.Refusal.{Refusal}
use Rattle.su_bytes.specs.declared.refusals.Refusal.TheVariants.{Malformed, MissingBlock, BadKey, TooBig, NoMemory, Busy, NotYourTurn, BadSignature, WrongPrev, WrongVector, KeyReuse, BookFull, OldFormat}
use Rattle.su_message.specs.declared.requests.Request.{Request}
use Rattle.su_message.specs.declared.requests.Request.TheVariants.{Grant, Commit, Give, Fetch, Put, Get}
use Rattle.su_message.specs.declared.replies.Reply.{Reply}
use Rattle.su_message.specs.declared.replies.Reply.TheVariants.{Refused}

-- what a commit may be refused for
abbrev pub refuses_commit : Refusal → Bool
refuses_commit (Malformed _) = true
refuses_commit BadKey = true
refuses_commit NotYourTurn = true
refuses_commit BadSignature = true
refuses_commit (WrongPrev _) = true
refuses_commit WrongVector = true
refuses_commit KeyReuse = true
refuses_commit BookFull = true
refuses_commit OldFormat = true
refuses_commit NoMemory = true
refuses_commit _ = false

abbrev pub refuses_grant : Refusal → Bool
refuses_grant (Busy _) = true
refuses_grant NoMemory = true
refuses_grant _ = false

abbrev pub refuses_give : Refusal → Bool
refuses_give NotYourTurn = true
refuses_give NoMemory = true
refuses_give _ = false

abbrev pub refuses_fetch : Refusal → Bool
refuses_fetch NoMemory = true
refuses_fetch _ = false

abbrev pub refuses_put : Refusal → Bool
refuses_put TooBig = true
refuses_put NoMemory = true
refuses_put _ = false

abbrev pub refuses_get : Refusal → Bool
refuses_get MissingBlock = true
refuses_get NoMemory = true
refuses_get _ = false

-- whether a refusal is one that a server may answer to the request: what the book or the items'
-- store may answer, or want of memory
abbrev pub may_refuse : Request → Refusal → Bool
may_refuse Grant e = refuses_grant e
may_refuse (Commit _) e = refuses_commit e
may_refuse Give e = refuses_give e
may_refuse (Fetch _) e = refuses_fetch e
may_refuse (Put _) e = refuses_put e
may_refuse (Get _) e = refuses_get e

-- ---- how a reply tells of a refusal

-- the refusal with this number, where it has no argument
abbrev pub told_alone : ℕ → Option Refusal
told_alone number =
    if number == 5 then Some MissingBlock
    else if number == 9 then Some BadKey
    else if number == 22 then Some TooBig
    else if number == 30 then Some NoMemory
    else if number == 32 then Some NotYourTurn
    else if number == 33 then Some BadSignature
    else if number == 35 then Some WrongVector
    else if number == 36 then Some KeyReuse
    else if number == 37 then Some BookFull
    else if number == 44 then Some OldFormat
    else None

-- the refusal with this number and argument, if a server tells of one; a seat has two bytes
abbrev pub told : ℕ → ℕ → Option Refusal
told number argument =
    if number == 1 then Some (Malformed argument)
    else if number == 31 then (if nat_lt argument 65536 then Some (Busy argument) else None)
    else if number == 34 then Some (WrongPrev argument)
    else if argument == 0 then told_alone number
    else None

-- the refusal that is told, where it may refuse the request
abbrev pub if_fitting : Request → Option Refusal → Option Refusal
if_fitting q (Some e) = if may_refuse q e then Some e else None
if_fitting q None = None

-- the refusal of which a reply tells, where it may refuse the request
abbrev pub fitting : Request → Reply → Option Refusal
fitting q (Refused number argument) = if_fitting q (told number argument)
fitting q _ = None
