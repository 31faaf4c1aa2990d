use Rattle.std.proofs.Common.{◌≡◌, refl, sym, Some}
use Rattle.std.specs.Vec.{with_item}
use Rattle.std.proofs.lemmas.Bool.{ltb-false, ltb-true}
use Rattle.su_part_tree.specs.Part.{HasNone}
use Rattle.su_part_forest.specs.Forest.{group_part}
use Rattle.su_part_forest.specs.declared.forests.PartForest.{PartForest}
use Rattle.su_part_forest.proofs.Asked.{no_part, part_got}
use Rattle.su_part_forest.proofs.ForestSheds.{group_shed, group_sheds, nothing_shed}
use Rattle.su_part_forest.proofs.Lifting.{get_other, if_none, if_some, on_ok, group_there}
use Rattle.su_part_forest.proofs.forests.PartForest.shed_group.Goals as goal

pub returns-in-Some-clause-sheds : goal.returns-in-Some-clause-sheds
returns-in-Some-clause-sheds g c =
    let got = sym (part_got c.args.self.now.groups.items c.args.group c.in-Some.part.now (ltb-true _ _ (sym c.in-Some.ensures.item.0)) c.in-Some.ensures.value) in
    group_sheds c.args.self.now _ c.args.group c.in-Some.part.now c.shed.new.self got refl refl
    (group_shed g.S.BlockSource.may_give g.S.BlockSource.failed g.S.BlockSource.follows g.S.BlockSource.puts c.args.group c.in-Some.part.now c.shed.new.self c.args.source.now c.shed.new.source c.shed.result
    (c.shed.ensures.stands c.args.group) c.shed.ensures.none c.shed.ensures.not_lost c.shed.ensures.more (c.shed.ensures.hashed c.args.group) (c.shed.ensures.failed c.args.group) c.shed.ensures.refused c.shed.ensures.follows)

pub returns-in-Some-clause-none : goal.returns-in-Some-clause-none
returns-in-Some-clause-none g c =
    let f = c.args.self.now in
    let n = c.args.group in
    let q = c.shed.new.self in
    let got = sym (part_got f.groups.items n c.in-Some.part.now (ltb-true _ _ (sym c.in-Some.ensures.item.0)) c.in-Some.ensures.value) in
    let new : PartForest = record { users = f.users; groups = with_item f.groups n q; alloc = f.alloc } in
    let there : group_part n new ≡ Some q = group_there f new n c.in-Some.part.now q got refl refl in
    on_ok c.shed.result (λ none. if_some (λ p. HasNone p.table) (group_part n new) q there none) c.shed.ensures.none

pub returns-in-Some-clause-others : goal.returns-in-Some-clause-others
returns-in-Some-clause-others g c k other = get_other c.args.self.now.groups.items c.args.group k c.shed.new.self other

pub returns-in-None-clause-sheds : goal.returns-in-None-clause-sheds
returns-in-None-clause-sheds g c = nothing_shed g.S.BlockSource.may_give g.S.BlockSource.failed g.S.BlockSource.follows g.S.BlockSource.puts g.met.S.BlockSource.follows_itself c.args.self.now c.args.source.now tt

pub returns-in-None-clause-none : goal.returns-in-None-clause-none
returns-in-None-clause-none g c =
    if_none (λ p. HasNone p.table) (group_part c.args.group c.args.self.now) (no_part c.args.self.now.groups.items c.args.group (ltb-false _ _ (sym c.in-None.ensures.item.0)))
