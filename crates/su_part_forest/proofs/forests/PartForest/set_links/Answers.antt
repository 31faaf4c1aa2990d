use Rattle.std.proofs.Common.{sym, ◌∙◌}
use Rattle.std.proofs.lemmas.Bool.{ltb-false, ltb-true}
use Rattle.su_node.specs.InodeChange.InodeChange.{Linked}
use Rattle.su_part.specs.Known.{Knows}
use Rattle.su_part.specs.Known.Want.{AnInode}
use Rattle.su_part_forest.proofs.EditLifting.{of_user_part, user_absent, user_edited, user_kept, user_known, user_part_stands}
use Rattle.su_part_forest.proofs.forests.PartForest.set_links.Goals as goal

pub returns-in-Some-clause-stands : goal.returns-in-Some-clause-stands
returns-in-Some-clause-stands c T h known =
    let f = c.args.self.now in
    let u = c.args.place.0 in
    let n = c.args.place.1 in
    let m = c.from.result in
    let p = c.in-Some.part.now in
    let within = ltb-true _ _ (sym c.in-Some.ensures.item.0) in
    let is = c.in-Some.ensures.value in
    let same = c.from.ensures ∙ c.number.ensures.value in
    let here = user_part_stands f m u p within is same T h in
    user_edited f m u p within is same c.set_links.new.self T n (Linked c.args.links) h (c.set_links.ensures.stands u T here (of_user_part f m u p within is same (Knows u T (AnInode n)) known))

pub returns-in-Some-clause-known : goal.returns-in-Some-clause-known
returns-in-Some-clause-known c T h known =
    let f = c.args.self.now in
    let u = c.args.place.0 in
    let n = c.args.place.1 in
    let m = c.from.result in
    let p = c.in-Some.part.now in
    let within = ltb-true _ _ (sym c.in-Some.ensures.item.0) in
    let is = c.in-Some.ensures.value in
    let same = c.from.ensures ∙ c.number.ensures.value in
    let here = user_part_stands f m u p within is same T h in
    user_known f m u p within is same c.set_links.new.self T n (Linked c.args.links) h (c.set_links.ensures.known u T here (of_user_part f m u p within is same (Knows u T (AnInode n)) known))

pub returns-in-None-clause-stands : goal.returns-in-None-clause-stands
returns-in-None-clause-stands c T h known =
    user_absent c.args.self.now c.from.result c.number.result (ltb-false _ _ (sym c.in-None.ensures.item.0)) c.from.ensures c.number.ensures.range T h

pub returns-in-None-clause-known : goal.returns-in-None-clause-known
returns-in-None-clause-known c T h known =
    user_absent c.args.self.now c.from.result c.number.result (ltb-false _ _ (sym c.in-None.ensures.item.0)) c.from.ensures c.number.ensures.range T h

pub returns-in-Some-clause-keeps : goal.returns-in-Some-clause-keeps
returns-in-Some-clause-keeps c =
    let f = c.args.self.now in
    let u = c.args.place.0 in
    let m = c.from.result in
    let p = c.in-Some.part.now in
    let within = ltb-true _ _ (sym c.in-Some.ensures.item.0) in
    let is = c.in-Some.ensures.value in
    let same = c.from.ensures ∙ c.number.ensures.value in
    user_kept f m u p within is same c.set_links.new.self c.set_links.ensures.keeps
