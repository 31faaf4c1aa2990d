use Rattle.su_bytes.specs.Principal.{is_user}
use Rattle.su_part.specs.Part.{StandsUser}
use Rattle.su_part_forest.specs.Forest.{user_part}
use Rattle.su_part_forest.proofs.Asked.{missing, part_is}
use Rattle.su_part_forest.proofs.forests.PartForest.i_handle.Goals as goal

pub returns-in-Some : goal.returns-in-Some
returns-in-Some c T h =
    let u = c.args.user in
    c.i_handle.ensures u T (part_is (λ p. StandsUser u p T) (is_user u) (user_part u c.args.self.now) c.in-Some.part.now c.in-Some.ensures (h.users u))

pub returns-in-None : goal.returns-in-None
returns-in-None c T h =
    let u = c.args.user in
    let none = missing (λ p. StandsUser u p T) (is_user u) (user_part u c.args.self.now) c.in-None.ensures (h.users u) in
    c.i_handle-in-None.ensures u T (c.empty.ensures.stands u T (λ n. h.no_user u n none))
