-- How the service keeps its records, and what its own functions say.
use Rattle.std.specs.Prelude.{ℕ, List, map, Result, Ok, Err}
use Rattle.su_bytes.specs.declared.refusals.Refusal.{Refusal}
use Rattle.su_version.specs.Commit.{commit_bytes}
use Rattle.su_book.specs.Machine.{BookState, records_of}
use Rattle.su_message.specs.declared.replies.Reply.{Reply}
use Rattle.su_session.specs.Answer.{refusal_reply}

-- the bytes of the book's records, in order
abbrev pub bytes_of : BookState → List (List ℕ)
bytes_of b = map commit_bytes (records_of b.journal)

-- a reply, or the one that tells of a refusal
abbrev pub said : Result Reply Refusal → Reply
said (Ok r) = r
said (Err e) = refusal_reply e
