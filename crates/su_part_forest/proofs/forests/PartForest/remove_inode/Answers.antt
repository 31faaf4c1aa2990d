use Rattle.std.proofs.Common.{sym, ◌∙◌}
use Rattle.std.proofs.lemmas.Bool.{ltb-false, ltb-true}
use Rattle.su_node.specs.InodeChange.InodeChange.{Gone}
use Rattle.su_part.specs.Known.{Knows}
use Rattle.su_part.specs.Known.Want.{AnInode}
use Rattle.su_part_forest.proofs.EditLifting.{of_user_part, user_absent, user_edited, user_known, user_part_stands}
use Rattle.su_part_forest.proofs.forests.PartForest.remove_inode.Goals as goal

pub returns-in-Some-clause-stands : goal.returns-in-Some-clause-stands
returns-in-Some-clause-stands c T h known =
    let f = c.args.self.now in
    let u = c.args.place.0 in
    let n = c.args.place.1 in
    let m = c.from.result in
    let p = c.in-Some.part.now in
    let within = ltb-true _ _ (sym c.in-Some.ensures.item.0) in
    let is = c.in-Some.ensures.value in
    let same = c.from.ensures ∙ c.number.ensures.value in
    let here = user_part_stands f m u p within is same T h in
    user_edited f m u p within is same c.take_inode-removed.new.self T n (Gone) h (c.take_inode-removed.ensures.stands u T here (of_user_part f m u p within is same (Knows u T (AnInode n)) known))

pub returns-in-Some-clause-known : goal.returns-in-Some-clause-known
returns-in-Some-clause-known c T h known =
    let f = c.args.self.now in
    let u = c.args.place.0 in
    let n = c.args.place.1 in
    let m = c.from.result in
    let p = c.in-Some.part.now in
    let within = ltb-true _ _ (sym c.in-Some.ensures.item.0) in
    let is = c.in-Some.ensures.value in
    let same = c.from.ensures ∙ c.number.ensures.value in
    let here = user_part_stands f m u p within is same T h in
    user_known f m u p within is same c.take_inode-removed.new.self T n (Gone) h (c.take_inode-removed.ensures.known u T here (of_user_part f m u p within is same (Knows u T (AnInode n)) known))

pub returns-in-None-clause-stands : goal.returns-in-None-clause-stands
returns-in-None-clause-stands c T h known =
    user_absent c.args.self.now c.from.result c.number.result (ltb-false _ _ (sym c.in-None.ensures.item.0)) c.from.ensures c.number.ensures.range T h

pub returns-in-None-clause-known : goal.returns-in-None-clause-known
returns-in-None-clause-known c T h known =
    user_absent c.args.self.now c.from.result c.number.result (ltb-false _ _ (sym c.in-None.ensures.item.0)) c.from.ensures c.number.ensures.range T h
