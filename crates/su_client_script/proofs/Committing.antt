-- Parts that are committed, one more behind others.
use Rattle.std.proofs.Common.{◌≡◌, ℕ, Bool, true, false, List, [], ◌∷◌, ◌++◌, inl, inr, refl, sym, ap, ◌∙◌, subst, append_assoc, append-nil, Result, Ok, Err, Option}
use Rattle.std.specs.Io.KnownBytes.{Appends}
use Rattle.su_op.specs.declared.operations.Op.{Op}
use Rattle.su_view.specs.declared.refusals.ViewRefusal.{ViewRefusal}
use Rattle.su_client.specs.Link.{LinkState}
use Rattle.su_client_work.specs.Member.{MemberState}
use Rattle.su_desk_script.specs.Answer.{answer_text}
use Rattle.su_client_script.specs.Carrying.{held_behind, CommitsIn, CommitsAll, CommitsUntil, CommitsSome, StopsAt}
use Rattle.su_client_script.specs.Lines.{Prints}
use Rattle.su_client_script.specs.Text.{number_shown, refusal_shown}
use Rattle.su_client_script.specs.Step.{IsOutcome, is_refused}
use Rattle.su_client_script.specs.declared.answers.Outcome.{Outcome}
use Rattle.su_client_script.specs.declared.places.Place.{Place}
use Rattle.su_client_script.proofs.Adding.{appends_then}

pub not_behind : (held : Bool) (parts : List (List Op)) (part : List Op) → held_behind held (parts ++ part ∷ []) ≡ false
not_behind held [] part = refl
not_behind held (x ∷ parts) part = refl

module _ (M : LinkState → Type 0) where
  pub commits_more : (held : Bool) (parts : List (List Op)) (part : List Op) (s m t : MemberState) (text : List ℕ) (n : ℕ)
      → CommitsAll M held parts s m text → CommitsIn M (held_behind held parts) part m t (Ok n)
      → CommitsAll M held (parts ++ part ∷ []) s t (text ++ answer_text (Ok n))
  commits_more held [] part s m t text n (same, none) one = (
    n,
    t,
    [],
    subst (λ (x : MemberState). CommitsIn M held part x t (Ok n)) same one,
    (refl, refl),
    (λ i. none i ++ answer_text (Ok n)) ∙ sym (append-nil (answer_text (Ok n))),
  )
  commits_more held (x ∷ parts) part s m t text n (k, between, rest, first, others, is) one = (
    k,
    between,
    rest ++ answer_text (Ok n),
    first,
    commits_more false parts part between m t rest n others (behind parts one),
    ap (λ l. l ++ answer_text (Ok n)) is ∙ append_assoc (answer_text (Ok k)) rest (answer_text (Ok n)),
  )
    where
      behind : (parts : List (List Op)) → CommitsIn M false part m t (Ok n) → CommitsIn M (held_behind false parts) part m t (Ok n)
      behind [] one = one
      behind (x ∷ parts) one = one

  pub stops_at : (parts others : List (List Op)) (part : List Op) (s m t : MemberState) (text : List ℕ) (e : ViewRefusal)
      → CommitsAll M true parts s m text → CommitsIn M (held_behind true parts) part m t (Err e) → StopsAt M true (parts ++ part ∷ others) s t (text ++ refusal_shown e)
  stops_at parts others part s m t text e done one = record {
    done = parts;
    next = part;
    others = others;
    all = refl;
    between = m;
    first = text;
    commits = done;
    refusal = e;
    refused = one;
    text_is = refl;
  }

-- ---- what came of one

pub was_refused : (a : Place) (r : Result ℕ ViewRefusal) (out : Outcome) → IsOutcome a r out → is_refused out ≡ true → (e : ViewRefusal) × (r ≡ Err e)
was_refused a (Ok n) out is refused = absurd (let clash : false ≡ true = ap is_refused (sym is) ∙ refused in cc)
was_refused a (Err e) out is refused = (e, refl)

pub was_done : (a : Place) (r : Result ℕ ViewRefusal) (out : Outcome) → IsOutcome a r out → is_refused out ≡ false → (n : ℕ) × (r ≡ Ok n)
was_done a (Ok n) out is refused = (n, refl)
was_done a (Err e) out is refused = absurd (let clash : true ≡ false = ap is_refused (sym is) ∙ refused in cc)

module _ (M : LinkState → Type 0) (old mid : Option (List ℕ)) (all done others : List (List Op)) (part : List Op) (s m t : MemberState) (first : Bool) (whole : done ++ part ∷ others ≡ all)
    (place : first ≡ held_behind true done) (so_far : Prints old mid (CommitsAll M true done s m)) where
  in_place : (r : Result ℕ ViewRefusal) → CommitsIn M first part m t r → CommitsIn M (held_behind true done) part m t r
  in_place r one = subst (λ b. CommitsIn M b part m t r) place one

  pub goes_on : (new : Option (List ℕ)) (r : Result ℕ ViewRefusal) (n : ℕ) → r ≡ Ok n → CommitsIn M first part m t r → Appends mid new (number_shown r)
      → Prints old new (CommitsAll M true (done ++ part ∷ []) s t)
  goes_on new r n is one printed =
      let (text, commits, before) = so_far in (
        text ++ answer_text (Ok n),
        commits_more M true done part s m t text n commits (subst (λ r. CommitsIn M (held_behind true done) part m t r) is (in_place r one)),
        appends_then old mid new text (answer_text (Ok n)) before (subst (λ r. Appends mid new (number_shown r)) is printed),
      )

  pub ends : (new : Option (List ℕ)) (r : Result ℕ ViewRefusal) (e : ViewRefusal) → r ≡ Err e → CommitsIn M first part m t r → Appends mid new (number_shown r)
      → Prints old new (CommitsUntil M all s t)
  ends new r e is one printed =
      let (text, commits, before) = so_far in (
        text ++ refusal_shown e,
        inr (subst (λ parts. StopsAt M true parts s t (text ++ refusal_shown e)) whole (stops_at M done others part s m t text e commits (subst (λ r. CommitsIn M (held_behind true done) part m t r) is (in_place r one)))),
        appends_then old mid new text (refusal_shown e) before (subst (λ r. Appends mid new (number_shown r)) is printed),
      )

  pub fails : (r : Result ℕ ViewRefusal) → CommitsIn M first part m t r → CommitsSome M all s t
  fails (Ok n) one =
      let (text, commits, before) = so_far in (
        done ++ part ∷ [],
        others,
        sym whole ∙ sym (append_assoc done (part ∷ []) others),
        text ++ answer_text (Ok n),
        inl (commits_more M true done part s m t text n commits (in_place (Ok n) one)),
      )
  fails (Err e) one =
      let (text, commits, before) = so_far in (
        done ++ part ∷ [],
        others,
        sym whole ∙ sym (append_assoc done (part ∷ []) others),
        text ++ refusal_shown e,
        inr (stops_at M done [] part s m t text e commits (in_place (Err e) one)),
      )
