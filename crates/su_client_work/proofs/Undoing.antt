-- An undo of the last operation is published, once it was asked which one that is.
use Rattle.std.proofs.Common.{◌≡◌, ℕ, Result, Ok, Err, OnErr, inl, inr, sym, ap, ◌∙◌, subst}
use Rattle.std.specs.Prelude.{IfOk, IfErr}
use Rattle.su_client.specs.Link.{LinkState, Follows}
use Rattle.su_desk.specs.History.{last_live}
use Rattle.su_legal.specs.Legal.{history}
use Rattle.su_op.specs.declared.operations.Change.{Change}
use Rattle.su_op.specs.declared.operations.Change.TheVariants.{Undo}
use Rattle.su_view.specs.Holding.{HoldingState}
use Rattle.su_view.specs.declared.refusals.ViewRefusal.{ViewRefusal}
use Rattle.su_client_work.specs.Member.{MemberState, OnlyAsks, OnlyTakes}
use Rattle.su_client_work.specs.Publishing.{EndsTurn, IsOver, IsPublished, Publishes, always, last_undo}
use Rattle.su_client_work.specs.Turn.{TakesTurn}
use Rattle.su_client_work.proofs.Taking.{only_asks, only_then}
use Rattle.su_client_work.proofs.Turns.{gives_turn_up, turn_asks}

-- what was found is the last one of what is held then
pub undone_last : (s t : MemberState) (n : ℕ) → OnlyAsks s t → n ≡ last_live (history s.holding.held) → n ≡ last_live (history t.holding.held)
undone_last s t n asks last = last ∙ ap (λ (v : HoldingState). last_live (history v.held)) (sym asks.holding)

module _ (MayConnect : LinkState → Type 0) where
  pub publishes_undo : (r : Result ℕ ViewRefusal) (s b l t : MemberState) (last : ℕ) → TakesTurn MayConnect s.link b.holding b.link → OnlyTakes s b → OnlyAsks b l → Follows b.link l.link
      → IfOk r (IsPublished (Undo last) l t) → IfOk r (λ n. (number : ℕ) × Publishes MayConnect (always (Undo number)) s t n)
  publishes_undo (Ok n) s b l t last turn takes asks follows published = (
    last,
    record {
      turn = l;
      takes_turn = turn_asks MayConnect s.link b l turn asks follows;
      takes = only_then s b l takes (only_asks b l asks);
      published = published;
    },
  )
  publishes_undo (Err e) s b l t last turn takes asks follows published = tt

  pub publishes_last : (r : Result ℕ ViewRefusal) (s b l t : MemberState) (last : ℕ) → TakesTurn MayConnect s.link b.holding b.link → OnlyTakes s b → OnlyAsks b l → Follows b.link l.link
      → last ≡ last_live (history b.holding.held) → IfOk r (IsPublished (Undo last) l t) → IfOk r (Publishes MayConnect last_undo s t)
  publishes_last (Ok n) s b l t last turn takes asks follows is published = record {
    turn = l;
    takes_turn = turn_asks MayConnect s.link b l turn asks follows;
    takes = only_then s b l takes (only_asks b l asks);
    published = subst (λ (m : ℕ). IsPublished (Undo m) l t n) (undone_last b l last asks is) published;
  }
  publishes_last (Err e) s b l t last turn takes asks follows is published = tt

  -- ---- nothing is left of the turn

  over : (change : Change) (s turn t : MemberState) (e : ViewRefusal) → TakesTurn MayConnect s.link turn.holding turn.link → EndsTurn change turn t → IsOver MayConnect change s t e
  over change s turn t e takes (inl gives) = inl (inr (gives_turn_up MayConnect s.link turn.holding turn.link t.link takes gives))
  over change s turn t e takes (inr stored) = inr (turn, takes, stored)

  pub over_so : (r : Result ℕ ViewRefusal) (change : Change) (s turn t : MemberState) → TakesTurn MayConnect s.link turn.holding turn.link → OnErr r (EndsTurn change turn t)
      → IfErr r (IsOver MayConnect change s t)
  over_so (Ok n) change s turn t takes ends = tt
  over_so (Err e) change s turn t takes ends = over change s turn t e takes ends

  pub over_undo : (r : Result ℕ ViewRefusal) (last : ℕ) (s b l t : MemberState) → TakesTurn MayConnect s.link b.holding b.link → OnlyAsks b l → Follows b.link l.link
      → OnErr r (EndsTurn (Undo last) l t) → IfErr r (λ e. (number : ℕ) × IsOver MayConnect (Undo number) s t e)
  over_undo (Ok n) last s b l t turn asks follows ends = tt
  over_undo (Err e) last s b l t turn asks follows ends = (last, over (Undo last) s l t e (turn_asks MayConnect s.link b l turn asks follows) ends)
