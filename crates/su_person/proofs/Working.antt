-- A client that does acts, and then stays as it is.
use Rattle.std.proofs.Common.{◌≡◌, ◌∙◌, ap, length, List, [], ◌∷◌, ◌++◌, append-nil, length-append, arith}
use Rattle.su_legal.specs.Legal.{Committed}
use Rattle.su_view.specs.Holding.{HoldingState, with_more}
use Rattle.su_client_work.specs.Member.{MemberState, OnlyAsks, OnlyTakes, Stays}
use Rattle.su_client_work.specs.Work.{Works}
use Rattle.su_client_work.proofs.Public.{only_stays, only_then, works_asks, works_still, works_takes, works_then}

pub works_then_asks : (s m t : MemberState) → Works s m → OnlyAsks m t → Works s t
works_then_asks s m t works asks = works_then s m t works (works_asks m t asks)

pub works_then_stays : (s m t : MemberState) → Works s m → Stays m t → Works s t
works_then_stays s m t works stays = works_then s m t works (works_still m t stays)

-- and where it took commits in between
pub works_then_takes : (s m t : MemberState) → Works s m → OnlyTakes m t → Works s t
works_then_takes s m t works takes = works_then s m t works (works_takes m t takes)

pub works_through : (s m b t : MemberState) → Works s m → OnlyTakes m b → Works b t → Works s t
works_through s m b t works takes then = works_then s b t (works_then_takes s m b works takes) then

-- commits that aren't more than before are none
pub takes_none : (s t : MemberState) → OnlyTakes s t → length s.holding.held ≡ length t.holding.held → OnlyAsks s t
takes_none s t takes same = record {
  holding = none takes.grew.0 takes.grew.1;
  clear = takes.clear;
  signed = takes.signed;
  next = takes.next;
}
  where
    none : (more : List Committed) → t.holding ≡ with_more s.holding more → t.holding ≡ s.holding
    none [] is = is ∙ ap (λ (l : List Committed). record { roster = s.holding.roster; user = s.holding.user; held = l; itemless = s.holding.itemless }) (append-nil s.holding.held)
    none (c ∷ more) is =
        let longer : length t.holding.held ≡ length (s.holding.held ++ c ∷ more) = ap (λ (v : HoldingState). length v.held) is in
        let none_ : ⊥ = omega (arith, length-append s.holding.held (c ∷ more), longer, same) in
        elim none_ [ ]

-- what was taken before stays taken
pub takes_then_stays : (s m t : MemberState) → OnlyTakes s m → Stays m t → OnlyTakes s t
takes_then_stays s m t takes stays = only_then s m t takes (only_stays m t stays)
