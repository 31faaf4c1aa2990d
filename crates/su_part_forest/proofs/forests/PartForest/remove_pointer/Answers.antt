use Rattle.std.proofs.Common.{None, sym, ◌∙◌}
use Rattle.std.proofs.lemmas.Bool.{ltb-false, ltb-true}
use Rattle.su_group_part.specs.Part.{KnowsPointer}
use Rattle.su_part_forest.proofs.EditLifting.{group_absent, group_edited, group_known, group_part_stands, of_group_part}
use Rattle.su_part_forest.proofs.forests.PartForest.remove_pointer.Goals as goal

pub returns-in-Some-clause-stands : goal.returns-in-Some-clause-stands
returns-in-Some-clause-stands c T h known =
    let f = c.args.self.now in
    let k = c.args.file.0 in
    let n = c.args.file.1 in
    let m = c.from.result in
    let p = c.in-Some.part.now in
    let within = ltb-true _ _ (sym c.in-Some.ensures.item.0) in
    let is = c.in-Some.ensures.value in
    let same = c.from.ensures ∙ c.number.ensures.value in
    let here = group_part_stands f m k p within is same T h in
    group_edited f m k p within is same c.remove_pointer.new.self T n None h (c.remove_pointer.ensures.stands k T here (of_group_part f m k p within is same (KnowsPointer k T n) known))

pub returns-in-Some-clause-known : goal.returns-in-Some-clause-known
returns-in-Some-clause-known c T h known =
    let f = c.args.self.now in
    let k = c.args.file.0 in
    let n = c.args.file.1 in
    let m = c.from.result in
    let p = c.in-Some.part.now in
    let within = ltb-true _ _ (sym c.in-Some.ensures.item.0) in
    let is = c.in-Some.ensures.value in
    let same = c.from.ensures ∙ c.number.ensures.value in
    let here = group_part_stands f m k p within is same T h in
    group_known f m k p within is same c.remove_pointer.new.self T n None (c.remove_pointer.ensures.known k T here (of_group_part f m k p within is same (KnowsPointer k T n) known))

pub returns-in-None-clause-stands : goal.returns-in-None-clause-stands
returns-in-None-clause-stands c T h known =
    group_absent c.args.self.now c.from.result c.number.result (ltb-false _ _ (sym c.in-None.ensures.item.0)) c.from.ensures c.number.ensures.range T h

pub returns-in-None-clause-known : goal.returns-in-None-clause-known
returns-in-None-clause-known c T h known =
    group_absent c.args.self.now c.from.result c.number.result (ltb-false _ _ (sym c.in-None.ensures.item.0)) c.from.ensures c.number.ensures.range T h
