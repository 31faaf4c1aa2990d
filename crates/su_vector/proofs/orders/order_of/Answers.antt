use Rattle.std.proofs.Common.{map, ap, ◌∙◌, arith}
use Rattle.su_vector.specs.Order.{place_in}
use Rattle.su_vector.proofs.Ordering.{one_position_more}
use Rattle.su_vector.proofs.orders.order_of.Goals as goal

pub loop-position-preserved : goal.loop-position-preserved
loop-position-preserved g c =
    let vs = map g.T.HasVector.vector_of c.args.items.now in
    let p = c.loop-position.position in
    let place = c.place_in-place.ensures.place ∙ ap (λ l. place_in vs l p) c.as_slice.ensures.value in
    rw (c.in_ok-insert.ensures.items, place) (one_position_more vs p c.loop-position.order.items (λ q low. c.in_default.ensures q p low (omega arith)) c.loop-position.invariant)
