use Rattle.std.proofs.Common.{◌≡◌, ◌<◌, List, map, length, get_or, sym, ap, ◌∙◌, arith, refl}
use Rattle.std.proofs.lemmas.List.{get_or_read, take_all}
use Rattle.std.proofs.lemmas.Option.{slice_get_within}
use Rattle.su_shared.specs.declared.seats.Kept.{Kept}
use Rattle.su_shared.specs.Seats.{SeatView}
use Rattle.su_shared.specs.Shares.{nothing}
use Rattle.su_shared.proofs.Closing.{below_next, kept_more}
use Rattle.su_shared.proofs.held.are_kept.Goals as goal

pub loop-i-preserved : goal.loop-i-preserved
loop-i-preserved g c =
    let seats : List SeatView = c.args.seats.now.items in
    let kept : List Kept = c.args.kept.now.items in
    let i = c.loop-i.i in
    let s : SeatView = c.index-seat.result.now in
    let in_seats : i < length seats = omega (arith, c.args.seats.now.ok) in
    let in_kept : i < length kept = omega (arith, c.args.seats.now.ok, c.args.kept.now.ok) in
    let at : s ≡ get_or seats i s = c.index-seat.ensures in
    let same : s.kept ≡ get_or kept i nothing = sym c.kept.ensures ∙ (c.if-not-are_same.ensures.is refl ∙ get_or_read kept i c.index.result.now in_kept c.index.ensures nothing) in
    let number : s.number ≡ i = omega (arith, c.number.ensures, c.from.ensures) in
    record {
      kept = kept_more seats kept i s at in_seats in_kept same c.loop-i.invariant.kept;
      numbers = below_next (λ k (x : SeatView). x.number ≡ k) seats i s at in_seats number (λ k x lt is. c.loop-i.invariant.numbers k x lt is);
    }

pub returns-clause-is : goal.returns-clause-is
returns-clause-is g c = λ yes.
    let seats : List SeatView = c.args.seats.now.items in
    let kept : List Kept = c.args.kept.now.items in
    let all : c.loop-i.i ≡ length seats = omega (arith, c.args.seats.now.ok) in
    let all_too : c.loop-i.i ≡ length kept = omega (arith, c.args.kept.now.ok) in
    (sym (ap (map (λ (x : SeatView). x.kept)) (take_all c.loop-i.i seats (omega arith))) ∙ (c.loop-i.invariant.kept ∙ take_all c.loop-i.i kept (omega arith)), λ k s is. c.loop-i.invariant.numbers k s (let w = slice_get_within seats k s is in omega arith) is)
