-- What is given to the service is kept.
use Rattle.std.proofs.Common.{◌≡◌, ◌∙◌, ℕ, ◌+◌, ◌⊎◌, inl, inr, Bool, true, false, List, [], ◌∷◌, ◌++◌, length, refl, sym, ap, subst, add-one}
use Rattle.std.specs.Prelude.{Option, None, Some, slice_get}
use Rattle.std.specs.Global.{Vec}
use Rattle.std.specs.Option.{option_or}
use Rattle.std.specs.Str.{bytes_eq}
use Rattle.std.proofs.lemmas.Slice.Eq.{bytes_eq-Decides}
use Rattle.sha2.specs.Sha256.{sha256}
use Rattle.su_bytes.specs.declared.refusals.Refusal.TheVariants.{NoMemory}
use Rattle.su_block.specs.Item.{is_item}
use Rattle.su_block.specs.Memory.{held_under, held_with}
use Rattle.su_version.specs.Commit.{Commit, commit_bytes}
use Rattle.su_book.specs.declared.events.Event.TheVariants as event
use Rattle.su_book.specs.declared.events.BookReply.{BookReply}
use Rattle.su_book.specs.declared.events.BookReply.TheVariants as told
use Rattle.su_book.specs.declared.steps.Act.TheVariants.{Stored}
use Rattle.su_book.specs.Machine.{BookState, records_of, stored_by, Tells, MayAct, MayBeStored}
use Rattle.su_book.proofs.Public.{records_push, commit_asks}
use Rattle.su_message.specs.declared.requests.Request.TheVariants as request
use Rattle.su_message.specs.declared.replies.Reply.{Reply}
use Rattle.su_message.specs.declared.replies.Reply.TheVariants as reply
use Rattle.su_session.specs.Answer.{refusal_reply}
use Rattle.su_own_service.specs.declared.own.TheConstants.{SEAT}
use Rattle.su_own_service.specs.Own.{Owned, held, reply_of, record_at, Fetches, Gets, Puts, Makes, Answers}

-- ---- a commit

-- the number that is told
told_number : (cs : List Commit) (k n : ℕ) (c : Commit) (r : BookReply) → Tells cs (Stored k c) r → reply.Stored n ≡ reply_of r → n ≡ k
told_number cs k n c (told.Granted i us) tells is = absurd tells
told_number cs k n c (told.Stored i) tells is = let same : n ≡ i = cc in same ∙ tells
told_number cs k n c told.Given tells is = absurd tells

last_of : (cs : List Commit) (c : Commit) → slice_get (cs ++ c ∷ []) (length cs) ≡ Some c
last_of [] c = refl
last_of (x ∷ cs) c = last_of cs c

at_last : (cs : List Commit) (c : Commit) (n : ℕ) → n ≡ length cs + 1 → record_at (cs ++ c ∷ []) n ≡ Some c
at_last cs c n is = ap (record_at (cs ++ c ∷ [])) (is ∙ add-one (length cs)) ∙ last_of cs c

-- the record of that number, after the step
record_made : (s t : Owned) (v : Vec ℕ) (n : ℕ) → Makes s (event.Commit v) (reply.Stored n) t → (c : Commit) × (record_at (records_of t.book.journal) n ≡ Some c) × (v.items ≡ commit_bytes c)
record_made s t v n m =
    let x = m.stepped in
    let cs = records_of s.book.journal in
    let (k, c, is, spelled) = commit_asks v x.act x.asked in
    let may : MayBeStored s.book SEAT k c = subst (MayAct s.book SEAT) is x.may in
    let number : n ≡ k = told_number cs k n c m.told (subst (λ a. Tells cs a m.told) is x.told) m.reply_is in
    let records : records_of t.book.journal ≡ cs ++ c ∷ [] =
    ap (λ (b : BookState). records_of b.journal) x.becomes ∙ records_push s.book.journal (record { seat = SEAT; act = x.act }) ∙ ap (λ a. cs ++ stored_by a) is in
    (c, ap (λ l. record_at l n) records ∙ at_last cs c n (number ∙ may.number), spelled)

fetched : (o : Option Commit) (c : Commit) (bytes : List ℕ) (r : Reply) → o ≡ Some c → bytes ≡ commit_bytes c → Fetches o r → (r ≡ reply.Kept bytes) ⊎ (r ≡ refusal_reply NoMemory)
fetched None c bytes r is spelled x = absurd (cc)
fetched (Some d) c bytes r is spelled (inl x) = let same : d ≡ c = cc in inl (x ∙ ap reply.Kept (ap commit_bytes same ∙ sym spelled))
fetched (Some d) c bytes r is spelled (inr x) = inr x

pub stored_is_fetched : (s t u : Owned) (bytes : List ℕ) (n : ℕ) (r : Reply) → Answers s (request.Commit bytes) (reply.Stored n) t → Answers t (request.Fetch n) r u
    → (r ≡ reply.Kept bytes) ⊎ (r ≡ refusal_reply NoMemory)
stored_is_fetched s t u bytes n r (inl (v, same, inl m)) y =
    let (c, there, spelled) = record_made s t v n m in
    fetched (record_at (records_of t.book.journal) n) c bytes r there (sym same ∙ spelled) y.0
stored_is_fetched s t u bytes n r (inl (v, same, inr m)) y = let no = m.reply_is in absurd (cc)
stored_is_fetched s t u bytes n r (inr none) y = let no = none.0 in absurd (cc)

-- ---- an item

own_item : (item d : List ℕ) → d ≡ sha256 item → held_under (item ∷ []) d ≡ Some item
unfolding held_under
own_item item d is =
    let has : bytes_eq d (sha256 item) ≡ true = (bytes_eq-Decides d (sha256 item)).1 is in
    rw has refl

now_held : (s t : Owned) (item d : List ℕ) → held s d ≡ None → d ≡ sha256 item → held t ≡ held_with (held s) item → held t d ≡ Some item
now_held s t item d none is more = ap (λ h. h d) more ∙ ap (λ o. option_or o (held_under (item ∷ []) d)) none ∙ own_item item d is

put_so : (b : Bool) (s t : Owned) (item d : List ℕ) → held s d ≡ None → Puts b s item (reply.PutDone d) t → held t d ≡ Some item
put_so false s t item d none x = let no = x.0 in absurd (cc)
put_so true s t item d none (inl x) = let is : d ≡ sha256 item = (let e = x.0 in cc) in now_held s t item d none is x.1.held
put_so true s t item d none (inr x) = let no = x.0 in absurd (cc)

pub put_is_got : (s t u : Owned) (item d : List ℕ) (r : Reply) → held s d ≡ None → Answers s (request.Put item) (reply.PutDone d) t → Answers t (request.Get d) r u
    → (r ≡ reply.Item item) ⊎ (r ≡ refusal_reply NoMemory)
put_is_got s t u item d r none x y = subst (λ o. Gets o r) (put_so (is_item item) s t item d none x) y.0
