-- To a request there is one reply, and to messages one list of replies, where memory isn't wanted.
use Rattle.std.proofs.Common.{◌≡◌, ◌∙◌, ℕ, inl, inr, Bool, true, false, List, [], ◌∷◌, refl, sym, ap, subst}
use Rattle.std.specs.Prelude.{◌≢◌, Option, None, Some}
use Rattle.std.specs.Global.{Vec}
use Rattle.su_bytes.specs.declared.refusals.Refusal.{Refusal}
use Rattle.su_bytes.specs.declared.refusals.Refusal.TheVariants.{NoMemory}
use Rattle.su_block.specs.Item.{is_item}
use Rattle.su_block.specs.Memory.{held_under, held_with}
use Rattle.su_version.specs.Commit.{Commit}
use Rattle.su_book.specs.declared.events.Event.{Event}
use Rattle.su_book.specs.declared.events.Event.TheVariants as event
use Rattle.su_book.specs.declared.events.BookReply.{BookReply}
use Rattle.su_book.specs.declared.events.BookReply.TheVariants as told
use Rattle.su_book.specs.declared.steps.Act.{Act}
use Rattle.su_book.specs.declared.steps.Act.TheVariants.{Granted, Stored, Given}
use Rattle.su_book.specs.Machine.{BookState, records_of, with_step, AsksFor, Tells, MayAct, Stepped, IsRefused, IsUnfit}
use Rattle.su_message.specs.declared.requests.Request.{Request}
use Rattle.su_message.specs.declared.requests.Request.TheVariants as request
use Rattle.su_message.specs.declared.replies.Reply.{Reply}
use Rattle.su_message.specs.declared.replies.Reply.TheVariants as reply
use Rattle.su_session.specs.Answer.{refusal_reply, Answered, Replies}
use Rattle.su_own_service.specs.declared.own.TheConstants.{SEAT}
use Rattle.su_own_service.specs.Own.{Owned, held, Alike, reply_of, Makes, AsksBook, record_at, Fetches, Gets, Puts, Answers, HasMemory}
use Rattle.su_own_service.proofs.RequestLemmas.{one_request, request_or_reason, one_reason}

-- ---- the same commit in two vectors

asks_same : (v w : Vec ℕ) (x : Act) → v.items ≡ w.items → AsksFor (event.Commit v) x → AsksFor (event.Commit w) x
asks_same v w (Granted n) same asks = asks
asks_same v w (Stored n c) same asks = sym same ∙ asks
asks_same v w Given same asks = asks

refused_same : (b : BookState) (v w : Vec ℕ) (e : Refusal) → v.items ≡ w.items → IsRefused b SEAT (event.Commit v) e → IsRefused b SEAT (event.Commit w) e
refused_same b v w e same (inl turn) = inl turn
refused_same b v w e same (inr unfit) = inr (unfit.0, subst (λ l. IsUnfit b l e) same unfit.1)

book_same : (s t : Owned) (v w : Vec ℕ) (r : Reply) → v.items ≡ w.items → AsksBook s (event.Commit v) r t → AsksBook s (event.Commit w) r t
book_same s t v w r same (inl m) =
    let made = m.stepped in
    inl (record {
      told = m.told;
      stepped = record { act = made.act; asked = asks_same v w made.act same made.asked; may = made.may; becomes = made.becomes; told = made.told };
      reply_is = m.reply_is;
      items = m.items;
    })
book_same s t v w r same (inr m) =
    inr (record { refusal = m.refusal; refused = refused_same s.book v w m.refusal same m.refused; reply_is = m.reply_is; same = m.same })

-- ---- what a book tells

told_once : (cs : List Commit) (act : Act) (x y : BookReply) → Tells cs act x → Tells cs act y → reply_of x ≡ reply_of y
told_once cs (Granted n) (told.Granted i us) (told.Granted j vs) x y = (λ k. reply.Granted ((x.0 ∙ sym y.0) k) ((x.1 ∙ sym y.1) k))
told_once cs (Granted n) (told.Granted i us) (told.Stored j) x y = absurd y
told_once cs (Granted n) (told.Granted i us) told.Given x y = absurd y
told_once cs (Granted n) (told.Stored i) z x y = absurd x
told_once cs (Granted n) told.Given z x y = absurd x
told_once cs (Stored n c) (told.Granted i us) z x y = absurd x
told_once cs (Stored n c) (told.Stored i) (told.Granted j vs) x y = absurd y
told_once cs (Stored n c) (told.Stored i) (told.Stored j) x y = ap reply.Stored (x ∙ sym y)
told_once cs (Stored n c) (told.Stored i) told.Given x y = absurd y
told_once cs (Stored n c) told.Given z x y = absurd x
told_once cs Given (told.Granted i us) z x y = absurd x
told_once cs Given (told.Stored i) z x y = absurd x
told_once cs Given told.Given (told.Granted j vs) x y = absurd y
told_once cs Given told.Given (told.Stored j) x y = absurd y
told_once cs Given told.Given told.Given x y = refl

-- ---- records and items

fetched_once : (o : Option Commit) (r p : Reply) → r ≢ refusal_reply NoMemory → p ≢ refusal_reply NoMemory → Fetches o r → Fetches o p → r ≡ p
fetched_once None r p mr mp x y = x ∙ sym y
fetched_once (Some c) r p mr mp (inl x) (inl y) = x ∙ sym y
fetched_once (Some c) r p mr mp (inl x) (inr y) = absurd (mp y)
fetched_once (Some c) r p mr mp (inr x) y = absurd (mr x)

got_once : (o : Option (List ℕ)) (r p : Reply) → r ≢ refusal_reply NoMemory → p ≢ refusal_reply NoMemory → Gets o r → Gets o p → r ≡ p
got_once None r p mr mp x y = x ∙ sym y
got_once (Some c) r p mr mp (inl x) (inl y) = x ∙ sym y
got_once (Some c) r p mr mp (inl x) (inr y) = absurd (mp y)
got_once (Some c) r p mr mp (inr x) y = absurd (mr x)

still_alike : (s t u v : Owned) → Alike s t → u ≡ s → v ≡ t → Alike u v
still_alike s t u v al is is' = subst (λ x. Alike x v) (sym is) (subst (λ x. Alike s x) (sym is') al)

put_once : (b : Bool) (s t u v : Owned) (item : List ℕ) (r p : Reply) → r ≢ refusal_reply NoMemory → p ≢ refusal_reply NoMemory
    → Alike s t → Puts b s item r u → Puts b t item p v → (r ≡ p) × Alike u v
put_once false s t u v item r p mr mp al x y = (x.0 ∙ sym y.0, still_alike s t u v al x.1 y.1)
put_once true s t u v item r p mr mp al (inl x) (inl y) =
    (x.0 ∙ sym y.0, record { book = x.1.book ∙ al.book ∙ sym y.1.book; held = x.1.held ∙ ap (λ h. held_with h item) al.held ∙ sym y.1.held })
put_once true s t u v item r p mr mp al (inl x) (inr y) = absurd (mp y.0)
put_once true s t u v item r p mr mp al (inr x) y = absurd (mr x.0)

-- ---- requests, where the machine of a book gives one answer

module _
    (one_act : (b : BookState) (seat : ℕ) (e : Event) (x y : Act) → AsksFor e x → AsksFor e y → MayAct b seat x → MayAct b seat y → x ≡ y)
    (one_refusal : (b : BookState) (seat : ℕ) (e : Event) (x y : Refusal) → IsRefused b seat e x → IsRefused b seat e y → x ≡ y)
    (either : (b : BookState) (seat : ℕ) (e : Event) (x : Act) (y : Refusal) → AsksFor e x → MayAct b seat x → IsRefused b seat e y → ⊥)
  where
    made_once : (s t u v : Owned) (e : Event) (r p : Reply) → Alike s t → Makes s e r u → Makes t e p v → (r ≡ p) × Alike u v
    made_once s t u v e r p al m n =
        let x = m.stepped in
        let y : Stepped s.book SEAT e v.book n.told = subst (λ b. Stepped b SEAT e v.book n.told) (sym al.book) n.stepped in
        let same : y.act ≡ x.act = one_act s.book SEAT e y.act x.act y.asked x.asked y.may x.may in
        let replies = told_once (records_of s.book.journal) x.act m.told n.told x.told (subst (λ a. Tells (records_of s.book.journal) a n.told) same y.told) in
        let books = x.becomes ∙ ap (λ a. with_step s.book (record { seat = SEAT; act = a })) (sym same) ∙ sym y.becomes in
        (m.reply_is ∙ replies ∙ sym n.reply_is, record { book = books; held = ap held_under m.items ∙ al.held ∙ ap held_under (sym n.items) })

    asked_once : (s t u v : Owned) (e : Event) (r p : Reply) → Alike s t → AsksBook s e r u → AsksBook t e p v → (r ≡ p) × Alike u v
    asked_once s t u v e r p al (inl m) (inl n) = made_once s t u v e r p al m n
    asked_once s t u v e r p al (inl m) (inr n) =
        absurd (either s.book SEAT e m.stepped.act n.refusal m.stepped.asked m.stepped.may (subst (λ b. IsRefused b SEAT e n.refusal) (sym al.book) n.refused))
    asked_once s t u v e r p al (inr m) (inl n) =
        absurd (either t.book SEAT e n.stepped.act m.refusal n.stepped.asked n.stepped.may (subst (λ b. IsRefused b SEAT e m.refusal) al.book m.refused))
    asked_once s t u v e r p al (inr m) (inr n) =
        let same = one_refusal t.book SEAT e m.refusal n.refusal (subst (λ b. IsRefused b SEAT e m.refusal) al.book m.refused) n.refused in
        (m.reply_is ∙ ap refusal_reply same ∙ sym n.reply_is, still_alike s t u v al m.same n.same)

    answered_once : (s t u v : Owned) (q : Request) (r p : Reply) → r ≢ refusal_reply NoMemory → p ≢ refusal_reply NoMemory
        → Alike s t → Answers s q r u → Answers t q p v → (r ≡ p) × Alike u v
    answered_once s t u v request.Grant r p mr mp al (inl x) (inl y) = asked_once s t u v event.Grant r p al x y
    answered_once s t u v request.Grant r p mr mp al (inl x) (inr y) = absurd (mp y.0)
    answered_once s t u v request.Grant r p mr mp al (inr x) y = absurd (mr x.0)
    answered_once s t u v (request.Commit bytes) r p mr mp al (inl (a, is_a, x)) (inl (b, is_b, y)) =
        asked_once s t u v (event.Commit b) r p al (book_same s u a b r (is_a ∙ sym is_b) x) y
    answered_once s t u v (request.Commit bytes) r p mr mp al (inl x) (inr y) = absurd (mp y.0)
    answered_once s t u v (request.Commit bytes) r p mr mp al (inr x) y = absurd (mr x.0)
    answered_once s t u v request.Give r p mr mp al x y = asked_once s t u v event.Give r p al x y
    answered_once s t u v (request.Fetch n) r p mr mp al x y =
        (fetched_once (record_at (records_of t.book.journal) n) r p mr mp (subst (λ b. Fetches (record_at (records_of b.journal) n) r) al.book x.0) y.0, still_alike s t u v al x.1 y.1)
    answered_once s t u v (request.Put item) r p mr mp al x y = put_once (is_item item) s t u v item r p mr mp al x y
    answered_once s t u v (request.Get digest) r p mr mp al x y =
        (got_once (held t digest) r p mr mp (subst (λ h. Gets (h digest) r) al.held x.0) y.0, still_alike s t u v al x.1 y.1)

    -- ---- messages

    message_once : (s t u v : Owned) (m : List ℕ) (r p : Reply) → r ≢ refusal_reply NoMemory → p ≢ refusal_reply NoMemory
        → Alike s t → Answered Answers s m r u → Answered Answers t m p v → (r ≡ p) × Alike u v
    message_once s t u v m r p mr mp al (inl (q, asks, x)) (inl (q', asks', y)) =
        let same : q' ≡ q = one_request m q' q asks' asks in
        answered_once s t u v q r p mr mp al x (subst (λ k. Answers t k p v) same y)
    message_once s t u v m r p mr mp al (inl (q, asks, x)) (inr (e, none, _, _)) = absurd (request_or_reason m q e asks none)
    message_once s t u v m r p mr mp al (inr (e, none, _, _)) (inl (q, asks, y)) = absurd (request_or_reason m q e asks none)
    message_once s t u v m r p mr mp al (inr (e, none, is, stays)) (inr (f, none', is', stays')) =
        (is ∙ ap refusal_reply (one_reason m e f none none') ∙ sym is', still_alike s t u v al stays stays')

    pub replies_once : (s t u v : Owned) (ms : List (List ℕ)) (rs ps : List Reply) → Alike s t
        → Replies Answers s ms rs u → Replies Answers t ms ps v → HasMemory rs → HasMemory ps → (rs ≡ ps) × Alike u v
    replies_once s t u v [] [] [] al x y mr mp = (refl, still_alike s t u v al x y)
    replies_once s t u v [] [] (p ∷ ps) al x y mr mp = absurd y
    replies_once s t u v [] (r ∷ rs) ps al x y mr mp = absurd x
    replies_once s t u v (m ∷ ms) [] ps al x y mr mp = absurd x
    replies_once s t u v (m ∷ ms) (r ∷ rs) [] al x y mr mp = absurd y
    replies_once s t u v (m ∷ ms) (r ∷ rs) (p ∷ ps) al (s', x, xs) (t', y, ys) mr mp =
        let first = message_once s t s' t' m r p mr.0 mp.0 al x y in
        let rest = replies_once s' t' u v ms rs ps first.1 xs ys mr.1 mp.1 in
        ((λ i. first.0 i ∷ rest.0 i), rest.1)
