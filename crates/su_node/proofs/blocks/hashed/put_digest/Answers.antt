use Rattle.std.proofs.Common.{inl, inr, arith}
use Rattle.std.proofs.lemmas.Bool.{cases_lt}
use Rattle.su_tree.specs.Laws.Numbers.{length-low_bits}
use Rattle.su_node.proofs.Numbered.{small_path}
use Rattle.su_node.proofs.blocks.hashed.put_digest.Goals as goal

pub overflow_add-result : goal.overflow_add-result
overflow_add-result c = omega (arith, length-low_bits 32 c.args.number, c.insert.ensures.hashes)

pub returns-clause-hashes : goal.returns-clause-hashes
returns-clause-hashes c = λ bits less all.
    elim (cases_lt 32 bits) [
      | inl over ↦ omega (arith, length-low_bits 32 c.args.number, c.insert.ensures.hashes)
      | inr within ↦ small_path bits c.args.number c.args.digests.now.entries c.args.digests.now.hashes c.insert.new.self.hashes c.insert.ensures.path within less all
    ]
