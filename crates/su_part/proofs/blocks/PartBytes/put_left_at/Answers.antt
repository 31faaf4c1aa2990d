use Rattle.std.proofs.Common.{refl, inl}
use Rattle.su_part.proofs.blocks.PartBytes.put_left_at.Goals as goal

pub returns-clause-left : goal.returns-clause-left
returns-clause-left c = record {
  size = refl;
  digests = λ m h some. c.set.ensures.stands m h (inl c.requires) some;
  blocks = c.remove.ensures.updates.0;
}
