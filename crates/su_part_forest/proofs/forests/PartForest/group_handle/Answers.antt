use Rattle.su_bytes.specs.Principal.{is_group}
use Rattle.su_group_part.specs.Part.{StandsGroup}
use Rattle.su_part_forest.specs.Forest.{group_part}
use Rattle.su_part_forest.proofs.Asked.{missing, part_is}
use Rattle.su_part_forest.proofs.forests.PartForest.group_handle.Goals as goal

pub returns-in-Some : goal.returns-in-Some
returns-in-Some c T h =
    let u = c.args.group in
    c.handle.ensures u T (part_is (λ p. StandsGroup u p T) (is_group u) (group_part u c.args.self.now) c.in-Some.part.now c.in-Some.ensures (h.groups u))

pub returns-in-None : goal.returns-in-None
returns-in-None c T h =
    let u = c.args.group in
    let none = missing (λ p. StandsGroup u p T) (is_group u) (group_part u c.args.self.now) c.in-None.ensures (h.groups u) in
    c.handle-in-None.ensures u T (c.empty.ensures.stands u T (λ n. h.no_group u n none))
