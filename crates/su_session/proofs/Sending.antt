-- What is written of one reply.
use Rattle.std.proofs.Common.{◌≡◌, sym, subst, ℕ, Bool, List, length, take, Option, inl}
use Rattle.std.specs.Io.KnownBytes.{Appends}
use Rattle.std.proofs.Math.Seq.{take-length}
use Rattle.su_message.specs.declared.requests.Request.{Request}
use Rattle.su_message.specs.declared.replies.Reply.{Reply}
use Rattle.su_frames.specs.declared.sending.Sent.{Sent}
use Rattle.su_frames.specs.declared.sending.Sent.TheVariants as sent
use Rattle.su_session.specs.Answer.{reply_frame, turn_by, Answered}
use Rattle.su_frames.specs.Sending.{Sends}
use Rattle.su_session.specs.Step.{Says}

-- whatever became of bytes, a front of them was written
pub front_sent : (bytes : List ℕ) (held : Option (List ℕ)) (s : Sent) (held' : Option (List ℕ)) → Sends bytes held s held' → (n : ℕ) × Appends held held' (take n bytes)
front_sent bytes held sent.Whole held' w = (length bytes, subst (Appends held held') (sym (take-length bytes)) w)
front_sent bytes held sent.Unflushed held' w = (length bytes, subst (Appends held held') (sym (take-length bytes)) w)
front_sent bytes held sent.Broken held' (n, lt, w) = (n, w)

-- a message that was answered, by what became of the reply
pub says_sent : {S : Type 0} (answers : S → Request → Reply → S → Type 0) (s t : S) (turn turn' : Bool) (m : List ℕ) (r : Reply) (held : Option (List ℕ)) (became : Sent) (held' : Option (List ℕ)) → Answered answers s m r t → turn' ≡ turn_by turn r → Sends (reply_frame r) held became held' → Says answers s turn m held became t turn' held'
says_sent answers s t turn turn' m r held sent.Whole held' a i w = (r, a, i, w)
says_sent answers s t turn turn' m r held sent.Unflushed held' a i w = (r, a, i, w)
says_sent answers s t turn turn' m r held sent.Broken held' a i (n, lt, w) = inl (r, n, a, i, lt, w)
