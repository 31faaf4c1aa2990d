use Rattle.std.proofs.Common.{refl, sym, subst}
use Rattle.std.specs.Prelude.{IfSome}
use Rattle.su_group_part.specs.Part.{HasPointer}
use Rattle.su_part_forest.proofs.Lifting.{if_none, if_some}
use Rattle.su_part_forest.specs.Forest.{group_part}
use Rattle.su_part_forest.proofs.forests.PartForest.has_pointer.Goals as goal

pub returns-in-Some : goal.returns-in-Some
returns-in-Some c = (
  λ is. if_some (HasPointer c.args.file.1) (group_part c.args.file.0 c.args.self.now) c.in-Some.part.now (sym c.in-Some.ensures) (c.has_pointer.ensures.0 is),
  λ has. c.has_pointer.ensures.1 (subst (λ o. IfSome o (HasPointer c.args.file.1)) (sym c.in-Some.ensures) has),
)

pub returns-in-None : goal.returns-in-None
returns-in-None c = (λ is. if_none (HasPointer c.args.file.1) (group_part c.args.file.0 c.args.self.now) c.in-None.ensures, λ has. refl)
