use Rattle.std.proofs.Common.{subst}
use Rattle.su_shared.specs.Shares.{HeldView, IsOrderly}
use Rattle.su_shared.proofs.Orders.{orderly}
use Rattle.su_shared.proofs.held.Held.orders.Goals as goal

pub returns-clause-orderly : goal.returns-clause-orderly
returns-clause-orderly g c = subst (λ (v : HeldView). IsOrderly v.book.journal) c.self.view_is (orderly c.self.inside.book c.self.invariant.0.run)
