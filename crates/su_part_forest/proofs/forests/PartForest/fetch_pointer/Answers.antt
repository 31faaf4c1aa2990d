use Rattle.std.proofs.Common.{◌≡◌, ◌∙◌, refl, sym, subst, Some, None}
use Rattle.std.specs.Vec.{with_item}
use Rattle.std.proofs.lemmas.Bool.{ltb-false, ltb-true}
use Rattle.su_group_part.specs.Part.{HasPointer}
use Rattle.su_part_forest.specs.Forest.{group_part}
use Rattle.su_part_forest.specs.declared.forests.PartForest.{PartForest}
use Rattle.su_part_forest.proofs.Asked.{part_got, no_part}
use Rattle.su_part_forest.proofs.Lifting.{group_loaded, group_there, on_ok, if_some, if_none}
use Rattle.su_part_forest.proofs.forests.PartForest.fetch_pointer.Goals as goal

pub returns-in-Some-clause-loads : goal.returns-in-Some-clause-loads
returns-in-Some-clause-loads g c =
    let got = sym (part_got c.args.self.now.groups.items c.from.result c.in-Some.part.now (ltb-true _ _ (sym c.in-Some.ensures.item.0)) c.in-Some.ensures.value) in
    group_loaded c.args.self.now _ c.from.result c.in-Some.part.now c.fetch_pointer.new.self got refl refl _ _ _ _ _ _ (record {
      stands = λ T h free. c.fetch_pointer.ensures.stands c.from.result T h free;
      malformed = λ e T h free. c.fetch_pointer.ensures.malformed e c.from.result T h free;
      failed = λ T h free. c.fetch_pointer.ensures.failed c.from.result T h free;
      refused = c.fetch_pointer.ensures.refused;
      keeps = c.fetch_pointer.ensures.keeps;
      no_more = c.fetch_pointer.ensures.no_more;
      follows = c.fetch_pointer.ensures.follows;
    })

pub returns-in-Some-clause-has : goal.returns-in-Some-clause-has
returns-in-Some-clause-has g c =
    let f = c.args.self.now in
    let q = c.fetch_pointer.new.self in
    let got = sym (part_got f.groups.items c.from.result c.in-Some.part.now (ltb-true _ _ (sym c.in-Some.ensures.item.0)) c.in-Some.ensures.value) in
    let new : PartForest = record { users = f.users; groups = with_item f.groups c.from.result q; alloc = f.alloc } in
    let there : group_part c.from.result new ≡ Some q = group_there f new c.from.result c.in-Some.part.now q got refl refl in
    let at : group_part c.args.file.0 new ≡ Some q = subst (λ k. group_part k new ≡ Some q) (c.from.ensures ∙ c.number.ensures.value) there in
    on_ok c.fetch_pointer.result (λ has. if_some (HasPointer c.args.file.1) (group_part c.args.file.0 new) q at has) c.fetch_pointer.ensures.has

pub returns-in-None-clause-has : goal.returns-in-None-clause-has
returns-in-None-clause-has g c =
    let f = c.args.self.now in
    let none = no_part f.groups.items c.from.result (ltb-false _ _ (sym c.in-None.ensures.item.0)) in
    if_none (HasPointer c.args.file.1) (group_part c.args.file.0 f) (subst (λ k. None ≡ group_part k f) (c.from.ensures ∙ c.number.ensures.value) none)
