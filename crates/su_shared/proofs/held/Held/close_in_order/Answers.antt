use Rattle.std.proofs.Common.{◌≡◌, ◌<◌, List, length, get_or, ap, ◌∙◌, subst, arith}
use Rattle.std.proofs.Math.ListN.{set}
use Rattle.std.proofs.lemmas.List.{set-get_or}
use Rattle.std.proofs.lemmas.Option.{slice_get_within}
use Rattle.su_shared.specs.Seats.{SeatView}
use Rattle.su_shared.specs.Shares.{HeldView, Knows}
use Rattle.su_shared.proofs.Closing.{below_next}
use Rattle.su_shared.proofs.held.Held.close_in_order.Goals as goal

pub loop-i-preserved : goal.loop-i-preserved
loop-i-preserved g c =
    let first : List SeatView = c.args.seats.items in
    let now : List SeatView = c.loop-i.seats.items in
    let i = c.loop-i.i in
    let s : SeatView = c.index_mut.result.now in
    let records = c.args.self.records in
    let same : now ≡ first = c.loop-i.invariant.seats in
    let held : c.loop-i.self ≡ c.args.self = c.loop-i.invariant.held in
    let within : i < length first = omega (arith, ap length same, c.args.seats.ok) in
    let at : s ≡ get_or first i s = subst (λ (l : List SeatView). s ≡ get_or l i s) same c.index_mut.ensures.value in
    let knows : Knows s.known records = subst (λ (h : HeldView). Knows s.known h.records) held c.check.ensures.knows in
    record {
      held = c.check.ensures.held ∙ held;
      seats = ap (set now i) (c.check.ensures.seat ∙ c.index_mut.ensures.value) ∙ (set-get_or now i s ∙ same);
      knows = below_next (λ k (x : SeatView). Knows x.known records) first i s at within knows c.loop-i.invariant.knows;
    }

pub returns-clause-knows : goal.returns-clause-knows
returns-clause-knows g c = λ k s is.
    let first : List SeatView = c.args.seats.items in
    let w = slice_get_within first k s is in
    c.loop-i.invariant.knows k s (omega (arith, c.args.seats.ok)) is
