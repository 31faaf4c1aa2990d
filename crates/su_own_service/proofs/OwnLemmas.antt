-- What the steps of a book leave of its records.
use Rattle.std.proofs.Common.{◌≡◌, ◌∙◌, ℕ, zero, suc, ◌-◌, arith, ◌⊎◌, List, [], ◌∷◌, ◌++◌, refl, sym, ap, subst, append-nil, inl, inr}
use Rattle.std.specs.Prelude.{map, slice_get, Option, None, Some}
use Rattle.std.specs.Option.{option_map}
use Rattle.std.proofs.lemmas.Option.{slice_get-map}
use Rattle.su_bytes.specs.declared.refusals.Refusal.TheVariants.{NoMemory}
use Rattle.su_bytes.specs.declared.refusals.Refusal.{Refusal}
use Rattle.su_message.specs.declared.requests.Request.TheVariants as request
use Rattle.su_message.specs.declared.replies.Reply.TheVariants.{Kept}
use Rattle.su_session.specs.Answer.{refusal_reply}
use Rattle.std.specs.Global.{Vec}
use Rattle.su_version.specs.Commit.{Commit, commit_bytes}
use Rattle.su_book.specs.declared.events.Event.{Event}
use Rattle.su_book.specs.declared.events.Event.TheVariants as event
use Rattle.su_book.specs.declared.events.BookReply.{BookReply}
use Rattle.su_book.specs.declared.events.BookReply.TheVariants as told
use Rattle.su_book.specs.declared.steps.Act.{Act}
use Rattle.su_book.specs.declared.steps.Act.TheVariants.{Granted, Stored, Given}
use Rattle.su_book.specs.Machine.{BookState, records_of, stored_by, Tells, TellsRecords, MayAct, Stepped, IsRefused}
use Rattle.su_book.proofs.Public.{records_push, grant_asks, commit_asks, give_asks}
use Rattle.su_own_service.specs.declared.own.TheConstants.{SEAT}
use Rattle.su_own_service.specs.Kept.{bytes_of}
use Rattle.su_own_service.specs.Own.{Owned, Fetches, record_at, Answers}

-- ---- what is told

tells : (b : BookState) (seat : ℕ) (act : Act) (r : BookReply) → MayAct b seat act → Tells (records_of b.journal) act r → TellsRecords r
tells b seat (Granted n) (told.Granted count last) may is = (records_of b.journal, is.0 ∙ may.count, is.1)
tells b seat (Granted n) (told.Stored number) may is = tt
tells b seat (Granted n) told.Given may is = tt
tells b seat (Stored n c) (told.Granted count last) may is = absurd is
tells b seat (Stored n c) (told.Stored number) may is = tt
tells b seat (Stored n c) told.Given may is = tt
tells b seat Given (told.Granted count last) may is = absurd is
tells b seat Given (told.Stored number) may is = tt
tells b seat Given told.Given may is = tt

pub tells_records : (b : BookState) (seat : ℕ) (e : Event) (b' : BookState) (r : BookReply) → Stepped b seat e b' r → TellsRecords r
tells_records b seat e b' r s = tells b seat s.act r s.may s.told

-- ---- the bytes of the records

bytes_after : (b : BookState) (seat : ℕ) (e : Event) (b' : BookState) (r : BookReply) (s : Stepped b seat e b' r) → bytes_of b' ≡ map commit_bytes (records_of b.journal ++ stored_by s.act)
bytes_after b seat e b' r s = ap bytes_of s.becomes ∙ ap (map commit_bytes) (records_push b.journal (record { seat = seat; act = s.act }))

none_stored : (b : BookState) (act : Act) → stored_by act ≡ [] → map commit_bytes (records_of b.journal ++ stored_by act) ≡ bytes_of b
none_stored b act none = ap (λ cs. map commit_bytes (records_of b.journal ++ cs)) none ∙ ap (map commit_bytes) (append-nil (records_of b.journal))

pub same_after_grant : (b : BookState) (seat : ℕ) (b' : BookState) (r : BookReply) → Stepped b seat event.Grant b' r → bytes_of b' ≡ bytes_of b
same_after_grant b seat b' r s =
    let (n, is) = grant_asks s.act s.asked in
    bytes_after b seat event.Grant b' r s ∙ none_stored b s.act (ap stored_by is)

pub same_after_give : (b : BookState) (seat : ℕ) (b' : BookState) (r : BookReply) → Stepped b seat event.Give b' r → bytes_of b' ≡ bytes_of b
same_after_give b seat b' r s = bytes_after b seat event.Give b' r s ∙ none_stored b s.act (ap stored_by (give_asks s.act s.asked))

map-push : (cs : List Commit) (c : Commit) → map commit_bytes (cs ++ c ∷ []) ≡ map commit_bytes cs ++ commit_bytes c ∷ []
map-push [] c = refl
map-push (x ∷ cs) c = ap (λ l. commit_bytes x ∷ l) (map-push cs c)

pub more_after_commit : (b : BookState) (seat : ℕ) (bytes : Vec ℕ) (b' : BookState) (r : BookReply) → Stepped b seat (event.Commit bytes) b' r → bytes_of b' ≡ bytes_of b ++ bytes.items ∷ []
more_after_commit b seat bytes b' r s =
    let (n, c, is, spelled) = commit_asks bytes s.act s.asked in
    bytes_after b seat (event.Commit bytes) b' r s
    ∙ ap (λ act. map commit_bytes (records_of b.journal ++ stored_by act)) is
    ∙ map-push (records_of b.journal) c
    ∙ ap (λ x. bytes_of b ++ x ∷ []) (sym spelled)

-- ---- what is fetched

kept_of : (o : Option Commit) (bytes : List ℕ) (copy : List ℕ) → copy ≡ bytes → option_map commit_bytes o ≡ Some bytes → Fetches o (Kept copy)
kept_of None bytes copy same e = absurd (cc)
kept_of (Some c) bytes copy same e = let is : commit_bytes c ≡ bytes = cc in inl (ap Kept (same ∙ sym is))

at_number : (cs : List Commit) (n : ℕ) → (n ≡ 0 → ⊥) → record_at cs n ≡ slice_get cs (n - 1)
at_number cs zero some = absurd (some refl)
at_number cs (suc n) some = let same : n ≡ suc n - 1 = omega arith in ap (slice_get cs) same

looked_up : (cs : List Commit) (held : List (List ℕ)) (n : ℕ) (o : Option (List ℕ)) → held ≡ map commit_bytes cs → (n ≡ 0 → ⊥) → o ≡ slice_get held (n - 1) → option_map commit_bytes (record_at cs n) ≡ o
looked_up cs held n o is some found =
    ap (option_map commit_bytes) (at_number cs n some) ∙ sym (slice_get-map commit_bytes cs (n - 1)) ∙ ap (λ l. slice_get l (n - 1)) (sym is) ∙ sym found

pub fetches_kept : (cs : List Commit) (held : List (List ℕ)) (n : ℕ) (bytes copy : List ℕ) → held ≡ map commit_bytes cs → (n ≡ 0 → ⊥)
    → Some bytes ≡ slice_get held (n - 1) → copy ≡ bytes → Fetches (record_at cs n) (Kept copy)
fetches_kept cs held n bytes copy is some found same =
    kept_of (record_at cs n) bytes copy same (looked_up cs held n (Some bytes) is some found)

-- ---- what is refused

pub refused_commit : (s t : Owned) (b : BookState) (same : Vec ℕ) (bytes : List ℕ) (e : Refusal) (More : Type 0) → same.items ≡ bytes → t ≡ s
    → b ≡ s.book → IsRefused b SEAT (event.Commit same) e ⊎ ((e ≡ NoMemory) × More) → Answers s (request.Commit bytes) (refusal_reply e) t
refused_commit s t b same bytes e More spelled stays here (inl refused) =
    inl (same, spelled, inr (record { refusal = e; refused = subst (λ o. IsRefused o SEAT (event.Commit same) e) here refused; reply_is = refl; same = stays }))
refused_commit s t b same bytes e More spelled stays here (inr none) = inr (ap refusal_reply none.0, stays)
