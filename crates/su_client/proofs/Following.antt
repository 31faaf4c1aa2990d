-- What becomes of a link in a call.
use Rattle.std.proofs.Common.{◌≡◌, ◌∙◌, sym, ap, subst, Bool, true, false, inl, inr, Err}
use Rattle.su_frames.specs.Stream.{frame}
use Rattle.su_bytes.specs.declared.refusals.Refusal.{Refusal}
use Rattle.su_message.specs.Request.{request_bytes}
use Rattle.su_message.specs.declared.requests.Request.{Request}
use Rattle.su_message.specs.declared.replies.Reply.{Reply}
use Rattle.su_bytes.specs.declared.refusals.Refusal.TheVariants.{LinkFailed}
use Rattle.su_client.specs.Link.{LinkState, Asked, Exchanged, Follows, IsRefusal}
use Rattle.su_client.specs.Following.{follows_itself}

-- what was asked and answered
pub follows_exchanged : (q : Request) (a b : LinkState) (r : Reply) → Exchanged q a b r → Follows a b
follows_exchanged q a b r e = record {
  output = frame (request_bytes q);
  written = e.written;
  input = e.input;
  read = e.read;
  no_more = λ failed. absurd (let bad : false ≡ true = sym e.works ∙ failed in cc);
}

-- the link fails after some calls
pub follows_failing : (a m b : LinkState) → Follows a m → b ≡ record m { failed = true } → Follows a b
follows_failing a m b p is = subst (Follows a) (sym is) (record {
  output = p.output;
  written = p.written;
  input = p.input;
  read = p.read;
  no_more = λ failed.
      let same = p.no_more failed in
      ap (λ (f : Bool). record m { failed = f }) (sym (ap (λ (l : LinkState). l.failed) same ∙ failed)) ∙ same;
})

-- what came fits nothing
pub fails_after : (q : Request) (a m b : LinkState) (r : Reply) (e : Refusal) → Exchanged q a m r → e ≡ LinkFailed → b ≡ record m { failed = true } → IsRefusal q a b e
fails_after q a m b r e exchanged is failed = inl (is, ap (λ (l : LinkState). l.failed) failed, follows_failing a m b (follows_exchanged q a m r exchanged) failed)

-- there was nothing to ask, or the link failed
pub follows_unasked : (q : Request) (a b : LinkState) (e : Refusal) → Asked q a b (Err e) → Follows a b
follows_unasked q a b e (inl (is, failed, follows)) = follows
follows_unasked q a b e (inr (is, unasked)) = subst (Follows a) (sym unasked.1) (follows_itself a)

-- what was refused
pub follows_refused : (q : Request) (a b : LinkState) (e : Refusal) → IsRefusal q a b e → Follows a b
follows_refused q a b e (inl (is, failed, follows)) = follows
follows_refused q a b e (inr (inl (is, unasked))) = subst (Follows a) (sym unasked.1) (follows_itself a)
follows_refused q a b e (inr (inr (fits, exchanged))) = follows_exchanged q a b _ exchanged
