-- A client that takes commits: none, and some after others.
use Rattle.std.proofs.Common.{◌≡◌, ℕ, List, [], ◌∷◌, ◌++◌, Result, Ok, Err, sym, ap, ◌∙◌, subst, append_assoc, append-nil}
use Rattle.std.specs.Prelude.{OnOk, OnErr}
use Rattle.std.proofs.lemmas.List.{append_cancel_left}
use Rattle.su_legal.specs.Legal.{Committed, LegalAfter}
use Rattle.su_legal.proofs.Public.{after_both}
use Rattle.su_view.specs.Acting.{TakesSome}
use Rattle.su_view.specs.Holding.{HoldingState, with_more, Took}
use Rattle.su_view.specs.Viewed.{Grows, IsClear as IsClearView, ViewOn}
use Rattle.su_client_work.specs.Member.{Grew, IsClear, MemberState, OnlyAsks, OnlyTakes, Stays}
use Rattle.su_client_work.proofs.Asked.{asks_stays}

-- a state with another list
abbrev with_list : HoldingState → List Committed → HoldingState
with_list v held = record { roster = v.roster; user = v.user; held = held; itemless = v.itemless }

with_none : (v : HoldingState) → v ≡ with_more v []
with_none v = ap (with_list v) (sym (append-nil v.held))

with_both : (v : HoldingState) (xs ys : List Committed) → with_more (with_more v xs) ys ≡ with_more v (xs ++ ys)
with_both v xs ys = ap (with_list v) (append_assoc v.held xs ys)

-- ---- a list that grows

pub grew_none : (v w : HoldingState) → w ≡ v → Grew v w
grew_none v w same = ([], same ∙ with_none v)

pub grew_then : (u v w : HoldingState) → Grew u v → Grew v w → Grew u w
grew_then u v w (xs, first) (ys, second) = (xs ++ ys, second ∙ ap (λ (x : HoldingState). with_more x ys) first ∙ with_both u xs ys)

-- ---- commits that may be taken

pub takes_none : (v : HoldingState) → TakesSome v v
takes_none v = ([], record { may = tt; becomes = with_none v })

took_both : (u : HoldingState) (xs ys : List Committed) (w : HoldingState)
    → LegalAfter u.roster u.held xs → Took (with_more u xs) ys w → Took u (xs ++ ys) w
took_both u xs ys w may took = record {
  may = after_both u.roster u.held xs ys may took.may;
  becomes = took.becomes ∙ with_both u xs ys;
}

pub takes_then : (u v w : HoldingState) → TakesSome u v → TakesSome v w → TakesSome u w
takes_then u v w (xs, first) (ys, second) =
    (xs ++ ys, took_both u xs ys w first.may (subst (λ (x : HoldingState). Took x ys w) first.becomes second))

-- what was taken is what the list grew by
pub took_these : (v w : HoldingState) (more : List Committed) → w ≡ with_more v more → TakesSome v w → Took v more w
took_these v w more is (xs, took) =
    let same : xs ≡ more = append_cancel_left v.held xs more (ap (λ (x : HoldingState). x.held) (sym took.becomes ∙ is)) in
    subst (λ (l : List Committed). Took v l w) same took

-- ---- a client

pub only_asks : (s t : MemberState) → OnlyAsks s t → OnlyTakes s t
only_asks s t p = record {
  grew = grew_none s.holding t.holding p.holding;
  takes = λ clear. subst (TakesSome s.holding) (sym p.holding) (takes_none s.holding);
  clear = p.clear;
  signed = p.signed;
  next = p.next;
}

pub only_stays : (s t : MemberState) → Stays s t → OnlyTakes s t
only_stays s t p = only_asks s t (asks_stays s t p)

pub only_then : (s t u : MemberState) → OnlyTakes s t → OnlyTakes t u → OnlyTakes s u
only_then s t u p q = record {
  grew = grew_then s.holding t.holding u.holding p.grew q.grew;
  takes = λ clear. takes_then s.holding t.holding u.holding (p.takes (q.clear clear)) (q.takes clear);
  clear = λ clear. p.clear (q.clear clear);
  signed = q.signed ∙ p.signed;
  next = q.next ∙ p.next;
}

-- ---- a view

module _ {S : Type 0} (may_give : S → List ℕ → Type 0) where
  -- it grew by some commits, where nothing was mixed up such as may be taken
  abbrev pub GrowsSome : ViewOn S → ViewOn S → Type 0
  GrowsSome w x = (more : List Committed) × Grows may_give w more x

  pub grows_nothing : (w x : ViewOn S) → x.holding ≡ w.holding → Grows may_give w [] x
  grows_nothing w x same = record { becomes = same ∙ with_none w.holding; may = λ clear. tt }

  pub grows_none : (w x : ViewOn S) → x.holding ≡ w.holding → GrowsSome w x
  grows_none w x same = ([], grows_nothing w x same)

  pub grows_both : (w x y : ViewOn S) (xs ys : List Committed) → (IsClearView may_give y → IsClearView may_give x) → Grows may_give w xs x → Grows may_give x ys y
      → Grows may_give w (xs ++ ys) y
  grows_both w x y xs ys back first second = record {
    becomes = second.becomes ∙ ap (λ (v : HoldingState). with_more v ys) first.becomes ∙ with_both w.holding xs ys;
    may = λ clear.
        after_both w.holding.roster w.holding.held xs ys (first.may (back clear))
        (subst (λ (v : HoldingState). LegalAfter v.roster v.held ys) first.becomes (second.may clear));
  }

  -- nothing more was taken
  pub grows_still : (w x y : ViewOn S) (xs : List Committed) → (IsClearView may_give y → IsClearView may_give x) → y.holding ≡ x.holding → Grows may_give w xs x → Grows may_give w xs y
  grows_still w x y xs back same first = record { becomes = same ∙ first.becomes; may = λ clear. first.may (back clear) }

  pub grows_then : (w x y : ViewOn S) → (IsClearView may_give y → IsClearView may_give x) → GrowsSome w x → GrowsSome x y → GrowsSome w y
  grows_then w x y back (xs, first) (ys, second) = (xs ++ ys, grows_both w x y xs ys back first second)

  -- one commit was taken, or the list stayed
  pub grows_one : {R E : Type 0} (r : Result R E) (B M : Committed → Type 0) (w x : ViewOn S)
      → OnOk r ((c : Committed) × B c × M c × Grows may_give w (c ∷ []) x) → OnErr r (x.holding ≡ w.holding) → GrowsSome w x
  grows_one (Ok a) B M w x (c, b, m, grows) same = (c ∷ [], grows)
  grows_one (Err e) B M w x grows same = grows_none w x same

  pub grows_found : {R E : Type 0} (r : Result R E) (B : Committed → Type 0) (w x : ViewOn S)
      → OnOk r ((c : Committed) × B c × Grows may_give w (c ∷ []) x) → OnErr r (x.holding ≡ w.holding) → GrowsSome w x
  grows_found (Ok a) B w x (c, b, grows) same = (c ∷ [], grows)
  grows_found (Err e) B w x grows same = grows_none w x same

  -- so it is with the client whose view this is
  pub only_grows : (s t : MemberState) (w x : ViewOn S) → w.holding ≡ s.holding → t.holding ≡ x.holding → (IsClear t → IsClearView may_give x) → (IsClear t → IsClear s)
      → t.signed ≡ s.signed → t.next ≡ s.next → GrowsSome w x → OnlyTakes s t
  only_grows s t w x before after view back signed next (more, grows) =
      let becomes : t.holding ≡ with_more s.holding more = after ∙ grows.becomes ∙ ap (λ (v : HoldingState). with_more v more) before in
      record {
        grew = (more, becomes);
        takes = λ clear. (more, record { may = subst (λ (v : HoldingState). LegalAfter v.roster v.held more) before (grows.may (view clear)); becomes = becomes });
        clear = back;
        signed = signed;
        next = next;
      }
