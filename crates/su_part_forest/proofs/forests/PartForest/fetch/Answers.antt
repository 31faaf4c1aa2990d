use Rattle.std.proofs.Common.{◌≡◌, ◌∙◌, refl, sym, subst, Some, None}
use Rattle.std.specs.Vec.{with_item}
use Rattle.std.proofs.lemmas.Bool.{ltb-false, ltb-true}
use Rattle.su_part.specs.Fetches.{HasWantedAt}
use Rattle.su_part_forest.specs.Forest.{user_part}
use Rattle.su_part_forest.specs.declared.forests.PartForest.{PartForest}
use Rattle.su_part_forest.proofs.Asked.{part_got, no_part}
use Rattle.su_part_forest.proofs.Lifting.{user_loaded, user_there, on_ok, if_some, if_none}
use Rattle.su_part_forest.proofs.forests.PartForest.fetch.Goals as goal

pub returns-in-Some-clause-loads : goal.returns-in-Some-clause-loads
returns-in-Some-clause-loads g c =
    let got = sym (part_got c.args.self.now.users.items c.from.result c.in-Some.part.now (ltb-true _ _ (sym c.in-Some.ensures.item.0)) c.in-Some.ensures.value) in
    user_loaded c.args.self.now _ c.from.result c.in-Some.part.now c.fetch.new.self got refl refl _ _ _ _ _ _ c.fetch.ensures.loads

pub returns-in-Some-clause-has : goal.returns-in-Some-clause-has
returns-in-Some-clause-has g c =
    let f = c.args.self.now in
    let q = c.fetch.new.self in
    let got = sym (part_got f.users.items c.from.result c.in-Some.part.now (ltb-true _ _ (sym c.in-Some.ensures.item.0)) c.in-Some.ensures.value) in
    let new : PartForest = record { users = with_item f.users c.from.result q; groups = f.groups; alloc = f.alloc } in
    let there : user_part c.from.result new ≡ Some q = user_there f new c.from.result c.in-Some.part.now q got refl refl in
    let at : user_part c.args.place.0 new ≡ Some q = subst (λ u. user_part u new ≡ Some q) (c.from.ensures ∙ c.number.ensures.value) there in
    on_ok c.fetch.result (λ has. if_some (HasWantedAt c.args.place.1 c.args.wanted.now) (user_part c.args.place.0 new) q at has) c.fetch.ensures.has

pub returns-in-None-clause-has : goal.returns-in-None-clause-has
returns-in-None-clause-has g c =
    let f = c.args.self.now in
    let none = no_part f.users.items c.from.result (ltb-false _ _ (sym c.in-None.ensures.item.0)) in
    if_none (HasWantedAt c.args.place.1 c.args.wanted.now) (user_part c.args.place.0 f) (subst (λ u. None ≡ user_part u f) (c.from.ensures ∙ c.number.ensures.value) none)
