use Rattle.std.proofs.Common.{Some, sym, ◌∙◌, ap}
use Rattle.su_live.specs.Live.{unboxed}
use Rattle.su_live.proofs.LiveLemmas.{first_of}
use Rattle.su_live.proofs.BoxLemmas.{first_box}
use Rattle.su_live.proofs.live.LiveOperations.first_from.Goals as goal

pub returns-in-Some : goal.returns-in-Some
returns-in-Some g c =
    ap Some c.as_ref.ensures ∙ sym (ap (λ r. first_of (unboxed r)) c.in-Some.ensures.steps)
    ∙ first_box c.args.number c.self.inside.operations.entries _ _ _ _ c.self.invariant c.self.view_is (c.range.ensures.between tt)

pub returns-in-None : goal.returns-in-None
returns-in-None g c =
    sym (ap (λ r. first_of (unboxed r)) c.in-None.ensures.steps.0)
    ∙ first_box c.args.number c.self.inside.operations.entries _ _ _ _ c.self.invariant c.self.view_is (c.range.ensures.between tt)
