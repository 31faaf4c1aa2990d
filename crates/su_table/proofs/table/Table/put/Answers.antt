use Rattle.std.proofs.Common.{arith, sym, subst}
use Rattle.su_tree.specs.Laws.Numbers.{length-low_bits}
use Rattle.su_table.specs.Free.{AreFronts}
use Rattle.su_table.proofs.Fronts.{fronts_stay}
use Rattle.su_table.proofs.table.Table.put.Goals as goal

pub invariant_of-self-then-is_none : goal.invariant_of-self-then-is_none
invariant_of-self-then-is_none g c =
    subst (λ ps. AreFronts ps c.self.inside.fronts.items) (sym c.in_ok-was.ensures.new)
    (fronts_stay c.self.inside.tree.entries c.self.inside.fronts.items c.number.result c.args.value c.self.invariant)

pub invariant_of-self-else-is_none : goal.invariant_of-self-else-is_none
invariant_of-self-else-is_none g c =
    subst (λ ps. AreFronts ps c.self.inside.fronts.items) (sym c.in_ok-was.ensures.new)
    (fronts_stay c.self.inside.tree.entries c.self.inside.fronts.items c.number.result c.args.value c.self.invariant)

pub returns-clause-hashes : goal.returns-clause-hashes
returns-clause-hashes g c = omega (arith, c.insert.ensures.hashes, length-low_bits 32 c.number.result, c.saturating_sub-made.ensures, c.hashes.ensures, c.hashes-before.ensures)
