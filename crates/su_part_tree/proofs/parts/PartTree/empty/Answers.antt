use Rattle.std.proofs.Common.{◌∙◌, refl, sym}
use Rattle.su_tree.proofs.Public.{digest_empty}
use Rattle.su_part_tree.proofs.parts.PartTree.empty.Goals as goal

pub returns-clause-stands : goal.returns-clause-stands
returns-clause-stands g c = (refl, digest_empty _ ∙ sym c.empty-digest.ensures.hash)
