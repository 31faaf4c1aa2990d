use Rattle.std.proofs.Common.{◌∙◌}
use Rattle.su_part_inverse.proofs.PackedLemmas.{packs_in, view_in}
use Rattle.su_part_inverse.proofs.kept.KeptInverse.pack.Goals as goal

pub invariant_of-self : goal.invariant_of-self
invariant_of-self c =
    packs_in c.self.inside.inverse c.pack_small.new.inverse c.self.inside.packed c.pack_small.new.packed c.pack_small.ensures.as_before c.self.inside.whole.items c.self.invariant

pub returns-clause-same : goal.returns-clause-same
returns-clause-same c =
    view_in c.self.inside.inverse c.pack_small.new.inverse c.self.inside.packed c.self.inside.whole.items c.pack_small.ensures.large c.self.invariant ∙ c.self.view_is
