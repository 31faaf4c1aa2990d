use Rattle.std.proofs.Common.{◌≡◌, ◌<◌, List, IfSome, length, get_or, ap, ◌∙◌, subst, arith}
use Rattle.std.proofs.Math.ListN.{set}
use Rattle.std.proofs.lemmas.List.{set-get_or}
use Rattle.std.proofs.lemmas.Option.{slice_get_within}
use Rattle.su_shared.specs.Entry.{Entry}
use Rattle.su_shared.specs.Seats.{SeatView, known_at}
use Rattle.su_shared.proofs.Closing.{below_next}
use Rattle.su_shared.proofs.held.check_all.Goals as goal

pub loop-i-preserved : goal.loop-i-preserved
loop-i-preserved g c =
    let first : List Entry = c.args.receipts.now.items in
    let now : List Entry = c.loop-i.receipts.items in
    let i = c.loop-i.i in
    let r : Entry = c.index_mut.result.now in
    let known = c.args.seat.now.known in
    let same : now ≡ first = c.loop-i.invariant.receipts in
    let seat : c.loop-i.seat ≡ c.args.seat.now = c.loop-i.invariant.seat in
    let within : i < length first = omega (arith, ap length same, c.args.receipts.now.ok) in
    let at : r ≡ get_or first i r = subst (λ (l : List Entry). r ≡ get_or l i r) same c.index_mut.ensures.value in
    let agrees : IfSome (known_at known r.number) (λ x. x ≡ r) = subst (λ (s : SeatView). IfSome (known_at s.known r.number) (λ x. x ≡ r)) seat c.check.ensures.agrees in
    record {
      receipts = ap (set now i) (c.check.ensures.receipt ∙ c.index_mut.ensures.value) ∙ (set-get_or now i r ∙ same);
      seat = c.check.ensures.seat ∙ seat;
      knows = below_next (λ k (x : Entry). IfSome (known_at known x.number) (λ y. y ≡ x)) first i r at within agrees c.loop-i.invariant.knows;
    }

pub returns-clause-knows : goal.returns-clause-knows
returns-clause-knows g c = λ k r is.
    let first : List Entry = c.args.receipts.now.items in
    let w = slice_get_within first k r is in
    c.loop-i.invariant.knows k r (omega (arith, c.args.receipts.now.ok)) is
