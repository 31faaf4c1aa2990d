use Rattle.std.proofs.Common.{sym, subst}
use Rattle.su_shared.specs.Shares.{HeldView, AreAll}
use Rattle.su_shared.proofs.Closing.{all_kept, in_order, kept_are}
use Rattle.su_shared.proofs.held.Held.is_all.Goals as goal

pub returns-clause-is : goal.returns-clause-is
returns-clause-is g c = λ yes.
    let s = c.self.inside in
    let both = c.are_kept.ensures.is yes in
    subst (λ (h : HeldView). AreAll c.args.seats.now.items h) c.self.view_is
    (all_kept _ s.book s.receipts.items s.kept.items c.args.seats.now.items c.self.invariant.0 both.0 both.1)

pub returns-clause-not : goal.returns-clause-not
returns-clause-not g c = λ no all.
    let s = c.self.inside in
    let seats = c.args.seats.now.items in
    let here = subst (λ (h : HeldView). AreAll seats h) (sym c.self.view_is) all in
    c.are_kept.ensures.not no (kept_are _ s.book s.receipts.items s.kept.items seats c.self.invariant.0 here) (in_order seats _ here)
