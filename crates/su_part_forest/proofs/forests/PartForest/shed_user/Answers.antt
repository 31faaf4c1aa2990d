use Rattle.std.proofs.Common.{◌≡◌, refl, sym, Some}
use Rattle.std.specs.Vec.{with_item}
use Rattle.std.proofs.lemmas.Bool.{ltb-false, ltb-true}
use Rattle.su_part.specs.Sheds.{HasNothing}
use Rattle.su_part_forest.specs.Forest.{user_part}
use Rattle.su_part_forest.specs.declared.forests.PartForest.{PartForest}
use Rattle.su_part_forest.proofs.Asked.{no_part, part_got}
use Rattle.su_part_forest.proofs.ForestSheds.{user_sheds, nothing_shed}
use Rattle.su_part_forest.proofs.Lifting.{get_other, if_none, if_some, on_ok, user_there}
use Rattle.su_part_forest.proofs.forests.PartForest.shed_user.Goals as goal

pub returns-in-Some-clause-sheds : goal.returns-in-Some-clause-sheds
returns-in-Some-clause-sheds g c =
    let got = sym (part_got c.args.self.now.users.items c.args.user c.in-Some.part.now (ltb-true _ _ (sym c.in-Some.ensures.item.0)) c.in-Some.ensures.value) in
    user_sheds c.args.self.now _ c.args.user c.in-Some.part.now c.shed.new.self got refl refl c.shed.ensures.sheds

pub returns-in-Some-clause-none : goal.returns-in-Some-clause-none
returns-in-Some-clause-none g c =
    let f = c.args.self.now in
    let n = c.args.user in
    let q = c.shed.new.self in
    let got = sym (part_got f.users.items n c.in-Some.part.now (ltb-true _ _ (sym c.in-Some.ensures.item.0)) c.in-Some.ensures.value) in
    let new : PartForest = record { users = with_item f.users n q; groups = f.groups; alloc = f.alloc } in
    let there : user_part n new ≡ Some q = user_there f new n c.in-Some.part.now q got refl refl in
    on_ok c.shed.result (λ none. if_some HasNothing (user_part n new) q there none) c.shed.ensures.none

pub returns-in-Some-clause-others : goal.returns-in-Some-clause-others
returns-in-Some-clause-others g c k other = get_other c.args.self.now.users.items c.args.user k c.shed.new.self other

pub returns-in-None-clause-sheds : goal.returns-in-None-clause-sheds
returns-in-None-clause-sheds g c = nothing_shed g.S.BlockSource.may_give g.S.BlockSource.failed g.S.BlockSource.follows g.S.BlockSource.puts g.met.S.BlockSource.follows_itself c.args.self.now c.args.source.now tt

pub returns-in-None-clause-none : goal.returns-in-None-clause-none
returns-in-None-clause-none g c =
    if_none HasNothing (user_part c.args.user c.args.self.now) (no_part c.args.self.now.users.items c.args.user (ltb-false _ _ (sym c.in-None.ensures.item.0)))
