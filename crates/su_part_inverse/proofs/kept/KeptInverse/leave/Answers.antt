use Rattle.std.proofs.Common.{subst}
use Rattle.su_part_inverse.specs.Lefts.{Leaves}
use Rattle.su_part_inverse.specs.Packed.{with_first}
use Rattle.su_part_inverse.specs.declared.inverses.Inverse.{Inverse}
use Rattle.su_part_inverse.proofs.PackedLemmas.{left_in, stays_in}
use Rattle.su_part_inverse.proofs.kept.KeptInverse.leave.Goals as goal

pub invariant_of-self : goal.invariant_of-self
invariant_of-self g c =
    stays_in c.self.inside.inverse c.leave.new.self c.args.source.now c.leave.new.source c.leave.result c.leave.ensures.leaves c.self.inside.packed c.self.inside.whole.items c.self.invariant

pub returns : goal.returns
returns g c =
    let all = left_in c.self.inside.inverse c.leave.new.self c.args.source.now c.leave.new.source c.leave.result c.leave.ensures.leaves c.self.inside.packed c.self.inside.whole.items c.self.invariant in
    record {
      leaves = subst (λ (i : Inverse). Leaves {A = Unit {0}} g.S.BlockSource.may_give g.S.BlockSource.follows i (with_first c.leave.new.self c.self.inside.whole.items) c.args.source.now c.leave.new.source c.leave.result)
          c.self.view_is all;
    }
