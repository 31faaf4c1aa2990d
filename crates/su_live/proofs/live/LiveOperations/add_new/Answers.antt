use Rattle.std.proofs.Common.{◌<◌, ◌^◌, ◌∙◌, refl, subst, ap, arith}
use Rattle.su_live.specs.declared.operations.LiveOperation.{LiveOperation}
use Rattle.su_live.specs.Readers.{EntersAbove, Leaves}
use Rattle.su_live.specs.Live.{unboxed}
use Rattle.su_live.proofs.ReadersLemmas.{entered_and_left}
use Rattle.su_live.proofs.LiveLemmas.{kept_as, missing_in}
use Rattle.su_live.proofs.BoxLemmas.{added_box}
use Rattle.su_live.proofs.live.LiveOperations.add_new.Goals as goal

pub enter_above-requires : goal.enter_above-requires
enter_above-requires g c = missing_in c.args.operation.number _ _ _ c.args.self.now c.self.invariant c.self.view_is c.requires

pub invariant_of-self : goal.invariant_of-self
invariant_of-self g c = kept_as _ _ _ _ _ c.self.invariant refl c.in-Err.ensures.err

pub invariant_of-self-in-Ok-insert : goal.invariant_of-self-in-Ok-insert
invariant_of-self-in-Ok-insert g c =
    let fits : c.args.operation.number < 2 ^ 32 = omega arith in
    let enters = subst (λ (v : LiveOperation g.row.I.Denot). EntersAbove c.self.inside.scanned c.args.operation.number v.footprint c.self.inside.readers c.enter_above.new.readers)
    (c.deref.ensures ∙ c.in_ok-boxed.ensures.ok) c.in-Ok.ensures.ok in
    (added_box c.args.operation c.in_ok-boxed.boxed c.from-2.result c.args.self.now c.self.inside.operations.entries c.insert.new.self.entries c.self.inside.readers c.enter_above.new.readers c.self.inside.scanned
    c.self.invariant c.self.view_is c.requires fits c.from-2.ensures c.in_ok-boxed.ensures.ok c.in-Ok-insert.ensures.entries enters).0

pub returns-in-Ok-insert-clause-ok : goal.returns-in-Ok-insert-clause-ok
returns-in-Ok-insert-clause-ok g c =
    let fits : c.args.operation.number < 2 ^ 32 = omega arith in
    let enters = subst (λ (v : LiveOperation g.row.I.Denot). EntersAbove c.self.inside.scanned c.args.operation.number v.footprint c.self.inside.readers c.enter_above.new.readers)
    (c.deref.ensures ∙ c.in_ok-boxed.ensures.ok) c.in-Ok.ensures.ok in
    (added_box c.args.operation c.in_ok-boxed.boxed c.from-2.result c.args.self.now c.self.inside.operations.entries c.insert.new.self.entries c.self.inside.readers c.enter_above.new.readers c.self.inside.scanned
    c.self.invariant c.self.view_is c.requires fits c.from-2.ensures c.in_ok-boxed.ensures.ok c.in-Ok-insert.ensures.entries enters).1

pub invariant_of-self-in-Err-insert : goal.invariant_of-self-in-Err-insert
invariant_of-self-in-Err-insert g c =
    let enters = subst (λ (v : LiveOperation g.row.I.Denot). EntersAbove c.self.inside.scanned c.args.operation.number v.footprint c.self.inside.readers c.enter_above.new.readers)
    (c.deref.ensures ∙ c.in_ok-boxed.ensures.ok) c.in-Ok.ensures.ok in
    let left = subst (λ (v : LiveOperation g.row.I.Denot). Leaves c.args.operation.number v.footprint c.enter_above.new.readers c.leave.new.readers)
    (c.into_inner-value-in-Err-insert.ensures ∙ ap (λ p. p.1.value) c.in-Err-insert.ensures.value_returned ∙ c.in_ok-boxed.ensures.ok) c.leave.ensures in
    kept_as _ _ _ _ _ c.self.invariant (ap unboxed c.in-Err-insert.ensures.err)
    (entered_and_left c.self.inside.scanned c.args.operation.number c.args.operation.footprint c.self.inside.readers c.enter_above.new.readers c.leave.new.readers
    (missing_in c.args.operation.number _ _ _ c.args.self.now c.self.invariant c.self.view_is c.requires) enters left)
