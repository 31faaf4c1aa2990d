use Rattle.std.proofs.Common.{◌<◌, ◌^◌, Some, refl, sym, ◌∙◌, ap, subst, arith}
use Rattle.su_live.specs.declared.operations.LiveOperation.{LiveOperation}
use Rattle.su_live.specs.Readers.{PutsAbove}
use Rattle.su_live.proofs.LiveLemmas.{entered_by, found_small, kept_as, not_missing, small_in}
use Rattle.su_live.proofs.BoxLemmas.{found_box, put_box}
use Rattle.su_live.proofs.live.LiveOperations.put.Goals as goal

pub overflow_cast-number : goal.overflow_cast-number
overflow_cast-number g c =
    let small : c.args.operation.number < 2 ^ 32 =
    found_small c.args.operation.number c.in-Some.there.now.value c.args.self.now
    (sym (found_box c.args.operation.number c.self.inside.operations.entries _ _ _ _ c.self.invariant c.self.view_is c.in-Some.ensures.value)) (small_in _ _ _ _ c.self.invariant c.self.view_is) in
    omega arith

pub put_above-requires : goal.put_above-requires
put_above-requires g c above =
    entered_by c.args.operation.number c.deref-2.result.now _ _ _ c.args.self.now c.self.invariant c.self.view_is
    (sym (ap Some c.deref-2.ensures ∙ found_box c.args.operation.number c.self.inside.operations.entries _ _ _ _ c.self.invariant c.self.view_is c.in-Some.ensures.value)) above

pub unreachable-requires : goal.unreachable-requires
unreachable-requires g c =
    not_missing c.args.operation.number c.args.self.now c.requires
    (sym (found_box c.args.operation.number c.self.inside.operations.entries _ _ _ _ c.self.invariant c.self.view_is c.in_default.ensures.value))

pub invariant_of-self : goal.invariant_of-self
invariant_of-self g c = kept_as _ _ _ _ _ c.self.invariant refl c.in-Err.ensures.err

pub returns-in_err-boxed-clause-fits : goal.returns-in_err-boxed-clause-fits
returns-in_err-boxed-clause-fits g c =
    found_small c.args.operation.number c.in-Some.there.now.value c.args.self.now
    (sym (found_box c.args.operation.number c.self.inside.operations.entries _ _ _ _ c.self.invariant c.self.view_is c.in-Some.ensures.value)) (small_in _ _ _ _ c.self.invariant c.self.view_is)

pub returns-in-Err-clause-fits : goal.returns-in-Err-clause-fits
returns-in-Err-clause-fits g c =
    found_small c.args.operation.number c.in-Some.there.now.value c.args.self.now
    (sym (found_box c.args.operation.number c.self.inside.operations.entries _ _ _ _ c.self.invariant c.self.view_is c.in-Some.ensures.value)) (small_in _ _ _ _ c.self.invariant c.self.view_is)

pub invariant_of-self-2 : goal.invariant_of-self-2
invariant_of-self-2 g c =
    let puts = subst (λ (v : LiveOperation g.row.I.Denot). PutsAbove c.self.inside.scanned c.args.operation.number v.footprint c.deref-2.result.now.footprint c.self.inside.readers c.put_above.new.readers)
    (c.deref.ensures ∙ c.in_ok-boxed.ensures.ok) c.in-Ok.ensures.ok in
    (put_box c.args.operation c.deref-2.result.now c.in_ok-boxed.boxed c.from.result c.args.self.now c.self.inside.operations.entries c.insert.new.self.entries c.self.inside.readers c.put_above.new.readers c.self.inside.scanned
    c.self.invariant c.self.view_is
    (sym (ap Some c.deref-2.ensures ∙ found_box c.args.operation.number c.self.inside.operations.entries _ _ _ _ c.self.invariant c.self.view_is c.in-Some.ensures.value))
    c.from.ensures c.in_ok-boxed.ensures.ok c.in-Ok-insert.ensures.entries puts).0

pub returns-clause-ok : goal.returns-clause-ok
returns-clause-ok g c =
    let puts = subst (λ (v : LiveOperation g.row.I.Denot). PutsAbove c.self.inside.scanned c.args.operation.number v.footprint c.deref-2.result.now.footprint c.self.inside.readers c.put_above.new.readers)
    (c.deref.ensures ∙ c.in_ok-boxed.ensures.ok) c.in-Ok.ensures.ok in
    (put_box c.args.operation c.deref-2.result.now c.in_ok-boxed.boxed c.from.result c.args.self.now c.self.inside.operations.entries c.insert.new.self.entries c.self.inside.readers c.put_above.new.readers c.self.inside.scanned
    c.self.invariant c.self.view_is
    (sym (ap Some c.deref-2.ensures ∙ found_box c.args.operation.number c.self.inside.operations.entries _ _ _ _ c.self.invariant c.self.view_is c.in-Some.ensures.value))
    c.from.ensures c.in_ok-boxed.ensures.ok c.in-Ok-insert.ensures.entries puts).1

pub returns-clause-fits : goal.returns-clause-fits
returns-clause-fits g c =
    found_small c.args.operation.number c.in-Some.there.now.value c.args.self.now
    (sym (found_box c.args.operation.number c.self.inside.operations.entries _ _ _ _ c.self.invariant c.self.view_is c.in-Some.ensures.value)) (small_in _ _ _ _ c.self.invariant c.self.view_is)
