use Rattle.std.proofs.Common.{◌<◌, ◌≤◌, [], Some, refl, sym, arith}
use Rattle.su_live.proofs.LiveLemmas.{ascend_in, has_above}
use Rattle.su_live.proofs.BlockerLemmas.{blocker_is, no_operation, scanned_blocker}
use Rattle.su_live.proofs.live.LiveOperations.blocker.Goals as goal

pub returns-in_default : goal.returns-in_default
returns-in_default g c = sym (no_operation [] c.args.number c.args.self.now (sym c.in_default.ensures))

pub last_entered-requires : goal.last_entered-requires
last_entered-requires g c =
    let is = c.max.ensures in
    let le : c.self.inside.scanned ≤ c.max.result = omega arith in
    has_above c.max.result _ _ _ c.args.self.now c.self.invariant c.self.view_is le

pub returns-in-Some-last_entered : goal.returns-in-Some-last_entered
returns-in-Some-last_entered g c =
    let last = c.in-Some-last_entered.last in
    let is = c.max.ensures in
    let above = c.in-Some-last_entered.ensures.later in
    let later : c.args.number < last = omega arith in
    blocker_is c.in-Some.operation.now.footprint.writes.items c.args.number c.in-Some.operation.now c.args.self.now (Some last)
    (ascend_in _ _ _ _ c.self.invariant c.self.view_is) (sym c.in-Some.ensures) refl
    later c.in-Some-last_entered.ensures.found c.in-Some-last_entered.ensures.last tt

pub returns-in-None : goal.returns-in-None
returns-in-None g c =
    scanned_blocker c.in-Some.operation.now.footprint.writes.items c.args.number c.self.inside.scanned c.in-Some.operation.now c.args.self.now c.last_scanned.result
    (ascend_in _ _ _ _ c.self.invariant c.self.view_is) (sym c.in-Some.ensures) refl
    (λ q after beyond. let is = c.max.ensures in c.in-None.ensures.none q (omega arith))
    c.last_scanned.ensures.later c.last_scanned.ensures.found c.last_scanned.ensures.last c.last_scanned.ensures.none
