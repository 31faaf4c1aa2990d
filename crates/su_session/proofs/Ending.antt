-- What an end says of bytes that are known.
use Rattle.std.proofs.Common.{◌≡◌, ◌∙◌, sym, refl, ap, subst, ℕ, ◌<◌, List, [], ◌∷◌, ◌++◌, length, length-append, inl, inr, Option, Some, None, append_assoc, append-nil, arith}
use Rattle.std.specs.Io.KnownBytes.{Consumes, IsAtEnd}
use Rattle.su_bytes.specs.declared.refusals.Refusal.{Refusal}
use Rattle.su_message.specs.declared.requests.Request.{Request}
use Rattle.su_message.specs.declared.replies.Reply.{Reply}
use Rattle.su_session.specs.declared.sessions.End.{End}
use Rattle.su_session.specs.declared.sessions.End.TheVariants as ended
use Rattle.su_frames.specs.Stream.{fault, IsRest, Splits}
use Rattle.su_session.specs.Session.{Ends, left, IsWhole, end_by, end_of, Moment, Session}

-- what was read of known bytes, and what is left of them
pub consumed : (all input : List ℕ) (known : Option (List ℕ)) → Consumes (Some all) known input → all ≡ input ++ left known
consumed all input None c = absurd c
consumed all input (Some xs) c = c

-- where the bytes of a reader are known, a session cuts them all
pub known_splits : {S : Type 0} (answers : S → Request → Reply → S → Type 0) (a b : Moment S) (end : End) (all : List ℕ) (x : Session answers a end b) → a.known ≡ Some all → Splits (a.waits ++ all) x.messages (x.rest ++ left b.known)
known_splits answers a b end all x known =
    let read = consumed all x.input b.known (subst (λ k. Consumes k b.known x.input) known x.read) in
    record {
      whole = ap (λ t. a.waits ++ t) read ∙ sym (append_assoc a.waits x.input (left b.known)) ∙ ap (λ t. t ++ left b.known) x.whole ∙ append_assoc _ x.rest (left b.known);
      each = x.each;
    }

at_end : (known : Option (List ℕ)) → IsAtEnd known → left known ≡ []
at_end None e = refl
at_end (Some xs) e = e

-- where a refused length is refused for good, no whole message is left at an end that says so
pub whole_end : ((bytes more : List ℕ) (e : Refusal) → fault bytes ≡ Some e → fault (bytes ++ more) ≡ Some e) → (end : End) (n : ℕ) (known : Option (List ℕ)) (rest : List ℕ) (rs : List Reply) (out : List ℕ) → Ends end n known rest rs out → IsWhole end (rest ++ left known)
whole_end for_good ended.Closed n known rest rs out (e, r, w) = subst IsRest (sym (ap (λ t. t ++ left known) r ∙ at_end known e)) (inl (refl, inl (omega arith)))
whole_end for_good ended.Cut n known rest rs out (e, p, l, w) = subst IsRest (sym (ap (λ t. rest ++ t) (at_end known e) ∙ append-nil rest)) (inl p)
whole_end for_good ended.Refused n known rest rs out (e, f, w, a) = inr (e, for_good rest (left known) e f)
whole_end for_good ended.ReadFailed n known rest rs out w = tt
whole_end for_good ended.Spent n known rest rs out w = tt
whole_end for_good ended.LinkFailed n known rest rs out w = tt

partial_end : (rest : List ℕ) → fault rest ≡ None → 0 < length rest → end_of rest ≡ ended.Cut
partial_end [] f l = absurd (omega (arith, l))
partial_end (b ∷ bs) f l = ap (λ o. end_by o (b ∷ bs)) f

-- where the link held, a session ended as the rest says
pub own_end : ((bytes more : List ℕ) (e : Refusal) → fault bytes ≡ Some e → fault (bytes ++ more) ≡ Some e) → (end : End) (n : ℕ) (known : Option (List ℕ)) (rest : List ℕ) (rs : List Reply) (out : List ℕ) → (end ≡ ended.ReadFailed → ⊥) → (end ≡ ended.LinkFailed → ⊥) → (end ≡ ended.Spent → ⊥) → Ends end n known rest rs out → (IsRest (rest ++ left known)) × (end ≡ end_of (rest ++ left known))
own_end for_good ended.Closed n known rest rs out r f s w = (whole_end for_good ended.Closed n known rest rs out w, sym (ap end_of (ap (λ t. t ++ left known) w.1 ∙ at_end known w.0)))
own_end for_good ended.Cut n known rest rs out r f s w = (whole_end for_good ended.Cut n known rest rs out w, sym (ap end_of (ap (λ t. rest ++ t) (at_end known w.0) ∙ append-nil rest) ∙ partial_end rest w.1.0 w.2))
own_end for_good ended.Refused n known rest rs out r f s (e, is, w, a) = (inr (e, for_good rest (left known) e is), sym (ap (λ o. end_by o (rest ++ left known)) (for_good rest (left known) e is)))
own_end for_good ended.ReadFailed n known rest rs out r f s w = absurd (r refl)
own_end for_good ended.Spent n known rest rs out r f s w = absurd (s refl)
own_end for_good ended.LinkFailed n known rest rs out r f s w = absurd (f refl)

-- lists that begin with each other are one
pub same_lists : {A : Type 0} (xs ys more less : List A) → xs ≡ ys ++ more → ys ≡ xs ++ less → more ≡ []
same_lists xs ys [] less p q = refl
same_lists xs ys (m ∷ more) less p q = absurd (omega (arith, ap length p, ap length q, length-append ys (m ∷ more), length-append xs less))
