use Rattle.std.proofs.Common.{◌<◌, ◌^◌, Some, sym, ap, ◌∙◌, arith}
use Rattle.std.specs.Map.{values_of}
use Rattle.su_live.specs.Live.{unboxed}
use Rattle.su_live.proofs.LiveLemmas.{found_small, small_in, without_none}
use Rattle.su_live.proofs.BoxLemmas.{found_box, removed_box}
use Rattle.su_live.proofs.live.LiveOperations.remove.Goals as goal

pub returns-in_default-clause-value : goal.returns-in_default-clause-value
returns-in_default-clause-value g c = found_box c.args.number c.self.inside.operations.entries _ _ _ _ c.self.invariant c.self.view_is c.in_default.ensures.value

pub returns-in_default-clause-others : goal.returns-in_default-clause-others
returns-in_default-clause-others g c =
    ap (λ es. values_of (unboxed es)) c.in_default.ensures.unchanged ∙ c.self.view_is
    ∙ sym (without_none c.args.number c.args.self.now (sym (found_box c.args.number c.self.inside.operations.entries _ _ _ _ c.self.invariant c.self.view_is c.in_default.ensures.value)))

pub overflow_cast-number : goal.overflow_cast-number
overflow_cast-number g c =
    let small : c.args.number < 2 ^ 32 =
    found_small c.args.number c.in-Some.boxed.value c.args.self.now
    (sym (found_box c.args.number c.self.inside.operations.entries _ _ _ _ c.self.invariant c.self.view_is c.in-Some.ensures.value)) (small_in _ _ _ _ c.self.invariant c.self.view_is) in
    omega arith

pub invariant_of-self-2 : goal.invariant_of-self-2
invariant_of-self-2 g c =
    (removed_box c.args.number c.into_inner-operation.result c.args.self.now c.self.inside.operations.entries c.remove.new.self.entries c.self.inside.readers c.leave.new.readers c.self.inside.scanned
    c.self.invariant c.self.view_is
    (sym (ap Some c.into_inner-operation.ensures ∙ found_box c.args.number c.self.inside.operations.entries _ _ _ _ c.self.invariant c.self.view_is c.in-Some.ensures.value))
    c.in-Some.ensures.entries c.leave.ensures).0

pub returns-clause-value : goal.returns-clause-value
returns-clause-value g c = ap Some c.into_inner-operation.ensures ∙ found_box c.args.number c.self.inside.operations.entries _ _ _ _ c.self.invariant c.self.view_is c.in-Some.ensures.value

pub returns-clause-others : goal.returns-clause-others
returns-clause-others g c =
    (removed_box c.args.number c.into_inner-operation.result c.args.self.now c.self.inside.operations.entries c.remove.new.self.entries c.self.inside.readers c.leave.new.readers c.self.inside.scanned
    c.self.invariant c.self.view_is
    (sym (ap Some c.into_inner-operation.ensures ∙ found_box c.args.number c.self.inside.operations.entries _ _ _ _ c.self.invariant c.self.view_is c.in-Some.ensures.value))
    c.in-Some.ensures.entries c.leave.ensures).1
