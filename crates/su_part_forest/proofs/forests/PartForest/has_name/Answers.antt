use Rattle.std.proofs.Common.{sym, subst}
use Rattle.std.specs.Prelude.{IfSome}
use Rattle.su_bytes.specs.Principal.{is_user}
use Rattle.su_part.specs.Part.{HasNameAt, StandsUser}
use Rattle.su_part_forest.proofs.Asked.{part_is}
use Rattle.su_part_forest.proofs.Lifting.{if_none, if_some}
use Rattle.su_part_forest.specs.Forest.{user_part}
use Rattle.su_part_forest.proofs.forests.PartForest.has_name.Goals as goal

pub returns-in-Some-clause-found : goal.returns-in-Some-clause-found
returns-in-Some-clause-found c is =
    if_some (HasNameAt c.args.place.1 c.args.name.now) (user_part c.args.place.0 c.args.self.now) c.in-Some.part.now (sym c.in-Some.ensures) (c.has_name.ensures.found is)

pub returns-in-Some-clause-told : goal.returns-in-Some-clause-told
returns-in-Some-clause-told c T h has =
    let f = c.args.self.now in
    let u = c.args.place.0 in
    let p = c.in-Some.part.now in
    c.has_name.ensures.told u T (part_is (λ q. StandsUser u q T) (is_user u) (user_part u f) p c.in-Some.ensures (h.users u)) (subst (λ o. IfSome o (HasNameAt c.args.place.1 c.args.name.now)) (sym c.in-Some.ensures) has)

pub returns-in-None-clause-found : goal.returns-in-None-clause-found
returns-in-None-clause-found c is = if_none (HasNameAt c.args.place.1 c.args.name.now) (user_part c.args.place.0 c.args.self.now) c.in-None.ensures
