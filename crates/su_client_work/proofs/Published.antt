-- A commit is handed in, and taken.
use Rattle.std.proofs.Common.{◌≡◌, ℕ, List, [], ◌∷◌, length, Result, Ok, Err, inr, refl, sym, ap, ◌∙◌, subst}
use Rattle.std.specs.Prelude.{IfOk, OnErr}
use Rattle.su_op.specs.declared.operations.Change.{Change}
use Rattle.su_version.specs.Commit.{Commit}
use Rattle.su_legal.specs.Legal.{Committed, LegalAfter}
use Rattle.su_client.specs.Link.{Follows}
use Rattle.su_client.specs.Following.{follows_on}
use Rattle.su_view.specs.Holding.{HoldingState, Took, with_more}
use Rattle.su_view.specs.Viewed.{Grows, IsClear as IsClearView, ViewOn}
use Rattle.su_view.specs.declared.refusals.ViewRefusal.{ViewRefusal}
use Rattle.su_client_work.specs.Member.{MemberState, IsClear, OnlyAsks}
use Rattle.su_client_work.specs.Publishing.{EndsTurn, HandsIn, IsPublished, SignsNone, SignsOne, TakesOwn}
use Rattle.su_client_work.proofs.Working.{one_after, one_on}

-- the client's view took it
pub own_taken : {S : Type 0} (may_give : S → List ℕ → Type 0) (s t : MemberState) (w x : ViewOn S) (c : Commit) (change : Change) (n : ℕ) → w.holding ≡ s.holding → t.holding ≡ x.holding
    → (IsClear t → IsClearView may_give x) → Grows may_give w (record { commit = c; change = change } ∷ []) x → n ≡ length x.holding.held → TakesOwn s c t n
own_taken may_give s t w x c change n before after view grows is =
    let one : List Committed = record { commit = c; change = change } ∷ [] in
    let becomes : t.holding ≡ with_more s.holding one = after ∙ grows.becomes ∙ ap (λ (v : HoldingState). with_more v one) before in
    record {
      committed = record { commit = c; change = change };
      is = refl;
      becomes = becomes;
      took = λ clear. record { may = subst (λ (v : HoldingState). LegalAfter v.roster v.held one) before (grows.may (view clear)); becomes = becomes };
      number = is ∙ ap (λ (v : HoldingState). length v.held) (sym after);
    }

-- before that the list stayed
own_held : (s m t : MemberState) (c : Commit) (n : ℕ) → m.holding ≡ s.holding → TakesOwn m c t n → TakesOwn s c t n
own_held s m t c n same took = record {
  committed = took.committed;
  is = took.is;
  becomes = took.becomes ∙ ap (λ (v : HoldingState). with_more v (took.committed ∷ [])) same;
  took = λ clear. subst (λ (v : HoldingState). Took v (took.committed ∷ []) t.holding) same (took.took clear);
  number = took.number;
}

pub is_published : (r : Result ℕ ViewRefusal) (change : Change) (c : Commit) (s m t : MemberState) → HandsIn change s c m → m.holding ≡ s.holding → SignsNone m t → (IsClear t → IsClear m)
    → Follows m.link t.link → IfOk r (TakesOwn m c t) → IfOk r (IsPublished change s t)
is_published (Ok n) change c s m t handed same none back follows took = record {
  commit = c;
  signs = one_on s.holding change c s m t handed.signs none back;
  handed_in = m.link;
  stored = handed.stored;
  follows = follows;
  takes = own_held s m t c n same took;
}
is_published (Err e) change c s m t handed same none back follows took = tt

-- it wasn't taken, but stored
pub was_stored : (r : Result ℕ ViewRefusal) (change : Change) (c : Commit) (s m t : MemberState) → HandsIn change s c m → SignsNone m t → (IsClear t → IsClear m) → Follows m.link t.link
    → OnErr r (EndsTurn change s t)
was_stored (Ok n) change c s m t handed none back follows = tt
was_stored (Err e) change c s m t handed none back follows = inr (record {
  commit = c;
  signs = one_on s.holding change c s m t handed.signs none back;
  handed_in = m.link;
  stored = handed.stored;
  follows = follows;
})

-- before that it was asked about the tree
pub published_after : (change : Change) (s m t : MemberState) (n : ℕ) → OnlyAsks s m → Follows s.link m.link → IsPublished change m t n → IsPublished change s t n
published_after change s m t n asks follows p = record {
  commit = p.commit;
  signs = subst (λ (v : HoldingState). SignsOne v change p.commit s t) asks.holding (one_after m.holding change p.commit s m t asks.clear asks.signed asks.next p.signs);
  handed_in = p.handed_in;
  stored = record {
    asked = p.stored.asked;
    follows = follows_on s.link m.link p.stored.asked follows p.stored.follows;
    between = p.stored.between;
    put = p.stored.put;
    number = p.stored.number;
    stored = p.stored.stored;
  };
  follows = p.follows;
  takes = own_held s m t p.commit n asks.holding p.takes;
}
