use Rattle.std.proofs.Common.{◌∙◌, inl, refl, sym}
use Rattle.std.proofs.lemmas.Bool.{ltb-false, ltb-true}
use Rattle.su_part_forest.proofs.Asked.{part_got}
use Rattle.su_part_forest.proofs.EditLifting.{user_absent, user_part_stands}
use Rattle.su_part_forest.proofs.Lifting.{user_loaded}
use Rattle.su_part_forest.proofs.forests.PartForest.name_at.Goals as goal

pub returns-in-Some-clause-value : goal.returns-in-Some-clause-value
returns-in-Some-clause-value g c T h free =
    let here = user_part_stands c.args.self.now c.from.result c.args.place.0 c.in-Some.part.now (ltb-true _ _ (sym c.in-Some.ensures.item.0)) c.in-Some.ensures.value (c.from.ensures ∙ c.number.ensures.value) T h in
    c.name_at.ensures.value c.args.place.0 T here (λ a b i. free a b (inl (c.args.place.0, i)))

pub returns-in-Some-clause-loads : goal.returns-in-Some-clause-loads
returns-in-Some-clause-loads g c =
    let got = sym (part_got c.args.self.now.users.items c.from.result c.in-Some.part.now (ltb-true _ _ (sym c.in-Some.ensures.item.0)) c.in-Some.ensures.value) in
    user_loaded c.args.self.now _ c.from.result c.in-Some.part.now c.name_at.new.self got refl refl _ _ _ _ _ _ c.name_at.ensures.loads

pub returns-in-None-clause-value : goal.returns-in-None-clause-value
returns-in-None-clause-value g c T h free =
    user_absent c.args.self.now c.from.result c.number.result (ltb-false _ _ (sym c.in-None.ensures.item.0)) c.from.ensures c.number.ensures.range T h
